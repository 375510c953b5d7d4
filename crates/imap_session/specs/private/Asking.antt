-- Sections that are asked of a message.
use Rattle.std.specs.Prelude.{◌≡◌, ℕ, Bool, true, false, List, [], ◌∷◌, ◌++◌, Option, None, Some, length, codes}
use Rattle.std.specs.Fmt.{decimal}
use Rattle.mail_wire.specs.declared.values.Span.{Span}
use Rattle.mime_tree.specs.declared.sections.Part.{Part}
use Rattle.mime_tree.specs.declared.sections.Part.TheVariants as place
use Rattle.kept_mail.specs.declared.kept.Listed.{Listed}
use Rattle.mail_store.specs.StoreState.{StoreState}
use Rattle.surrogate_cache.specs.Served.{Mode}
use Rattle.session_core.specs.Oracles.{Oracles}
use Rattle.imap_grammar.specs.declared.command.FetchItem.{FetchItem}
use Rattle.imap_grammar.specs.declared.command.SectionPart.{SectionPart}
use Rattle.imap_views.specs.Chosen.{AreChosen}
use Rattle.imap_views.specs.Views.{fields}
use Rattle.imap_session.specs.Items.{fields_parts, found_parts, item_parts, partial_octets, place_of, section_at, section_name, shown_parts}
use Rattle.imap_session.specs.Replies.{ReplyPart}
use Rattle.imap_session.specs.declared.sections.Asked.{Asked}
use Rattle.imap_session.specs.declared.sections.Called.{Called}
use Rattle.imap_session.specs.declared.sections.Called.TheVariants as calls
use Rattle.imap_session.specs.declared.sections.Chosen.{Chosen}
use Rattle.imap_session.specs.declared.sections.Wanted.{Wanted}
use Rattle.imap_session.specs.declared.sections.Wanted.TheVariants as want
use Rattle.imap_session.specs.private.Shown.{asks_section, shows}

-- an octet where something stands before what comes next
abbrev pub separator_octets : (octet : ℕ) → (is_separated : Bool) → List ℕ
separator_octets octet false = []
separator_octets octet true = octet ∷ []

-- the header of a literal
abbrev pub head_octets : (asked : List ℕ) → (size : ℕ) → List ℕ
head_octets asked size = asked ++ (codes " {" ++ (decimal size ++ codes "}\r\n"))

-- ---- what is asked

-- the name of what is asked
abbrev pub name_as : Called → (path : List ℕ) → Option (ℕ × ℕ) → List ℕ
name_as (calls.Word word) path partial = word.now
name_as (calls.Section what) path partial = section_name path what.now partial

abbrev pub name_of : Asked → List ℕ
name_of asked = name_as asked.called asked.path.now asked.partial

-- the part of an entity from which what is wanted is taken
abbrev pub wanted_place : Wanted → Part
wanted_place (want.Octets what) = what
wanted_place (want.Fields chosen) = place.Header

-- what is told of it, where the section stands there or nowhere
abbrev pub wanted_parts : Oracles → Mode → StoreState → Listed → (asked : List ℕ) → Option (ℕ × ℕ) → Wanted → Option Span → List ReplyPart
wanted_parts oracles mode store one asked partial (want.Octets what) span = shown_parts mode store one asked partial span
wanted_parts oracles mode store one asked partial (want.Fields chosen) span = fields_parts oracles mode store one asked partial (fields chosen.names.now chosen.negated) span

abbrev pub asked_parts : Oracles → Mode → StoreState → Listed → Asked → List ReplyPart
asked_parts oracles mode store one asked =
    wanted_parts oracles mode store one (name_of asked) asked.partial asked.wanted (section_at oracles mode store one asked.path.now (wanted_place asked.wanted))

-- what the words of a section want
pub record IsWanted (what : SectionPart) (wanted : Wanted) : Type 0 where
  pub at : place_of what ≡ wanted_place wanted
  pub parts : (oracles : Oracles) (mode : Mode) (store : StoreState) (one : Listed) (asked : List ℕ) (partial : Option (ℕ × ℕ)) (span : Option Span)
      → found_parts oracles mode store one asked partial what span ≡ wanted_parts oracles mode store one asked partial wanted span

-- octets of the whole message, under this name
pub record IsOfMessage (word : List ℕ) (what : Part) (asked : Asked) : Type 0 where
  pub name : (path : List ℕ) (partial : Option (ℕ × ℕ)) → name_as asked.called path partial ≡ word
  pub path : asked.path.now ≡ []
  pub wanted : asked.wanted ≡ want.Octets what
  pub partial : asked.partial ≡ None

-- what is asked is what is stored, or a part of it
pub record AsksStored (enabled : Bool) (asked : Asked) : Type 0 where
  pub is_enabled : enabled ≡ true
  pub path : asked.path.now ≡ []
  pub wanted : asked.wanted ≡ want.Octets place.Whole

-- the item asks this section, or none
abbrev pub IsAsked : FetchItem → Option Asked → Type 0
IsAsked item None = asks_section item ≡ false
IsAsked item (Some asked) =
    ((enabled : Bool) → shows enabled item ≡ false → AsksStored enabled asked)
    × ((oracles : Oracles) (mode : Mode) (store : StoreState) (one : Listed) → item_parts oracles mode store one item ≡ asked_parts oracles mode store one asked)

-- ---- fields

-- The fields that were chosen were put last as a literal, or the part of them that was asked.
pub record AddsFields (asked : Asked) (chosen : Chosen) (header old new : List ℕ) : Type 0 where
  pub text : List ℕ
  pub are_chosen : AreChosen header chosen.names.now chosen.negated text
  pub new_is : new ≡ old ++ (head_octets (name_of asked) (length (partial_octets asked.partial text)) ++ partial_octets asked.partial text)
