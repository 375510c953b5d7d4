-- Views that are put last.
use Rattle.std.specs.Prelude.{◌≡◌, List, ℕ, [], ◌++◌, Bool, true, false, Option, None, Some, take, drop, codes}
use Rattle.mail_wire.specs.declared.values.Span.{Span}
use Rattle.mime_tree.specs.Sections.{section}
use Rattle.mime_tree.specs.declared.sections.Part.TheVariants.{Header}
use Rattle.surrogate_rope.specs.Served.{shown_octets, shown_outlines}
use Rattle.surrogate_rope.specs.declared.shown.Shown.{Shown}
use Rattle.imap_views.specs.Views.{View, IsView}

abbrev pub octets_in : List ℕ → Option Span → List ℕ
octets_in octets None = []
octets_in octets (Some span) = take span.len (drop span.at octets)

-- the header of what is shown of a message
abbrev pub header_shown : (msg : List ℕ) → Shown → List ℕ
header_shown msg shown = octets_in (shown_octets msg shown) (section (shown_outlines shown) [] Header)

abbrev pub structure_words : (extended : Bool) → List ℕ
structure_words false = codes "BODY "
structure_words true = codes "BODYSTRUCTURE "

-- a word was put last, and after it this view of the octets
pub record AddsView (word : List ℕ) (view : View) (octets old new : List ℕ) : Type 0 where
  pub text : List ℕ
  pub is_view : IsView view octets text
  pub new_is : new ≡ old ++ (word ++ text)
