-- What a legacy session is shown of a message has ASCII headers, and so its views are ASCII.
use Rattle.std.proofs.Common.{◌≡◌, ℕ, ◌+◌, List, [], ◌∷◌, Bool, true, Option, Some, None, slice_get, take, drop, refl, sym, ◌∙◌, ap, subst}
use Rattle.std.specs.List.{list_all}
use Rattle.std.specs.Prelude.{option_and_then, option_map}
use Rattle.std.proofs.lemmas.Option.{same_Some}
use Rattle.mail_wire.specs.Octets.{is_ascii}
use Rattle.mail_wire.specs.declared.values.Span.{Span}
use Rattle.mime_tree.specs.Outlines.{Outline, outlines_of}
use Rattle.mime_tree.specs.Sections.{child_of, header_of, named_by, part_at, part_of, part_of_all, section}
use Rattle.mime_tree.specs.declared.entity.Shape.{Shape}
use Rattle.mime_tree.specs.declared.entity.Shape.TheVariants.{Leaf, Multipart, Message}
use Rattle.mime_tree.specs.declared.sections.Part.TheVariants.{Header}
use Rattle.surrogate_rope.specs.Layout.{HasAsciiBlocks}
use Rattle.surrogate_rope.specs.declared.shown.Shown.TheVariants.{Whole}
use Rattle.session_core.specs.Oracles.{Oracles, AreOracles}
use Rattle.imap_views.specs.Fields.{HasSomeBlock}
use Rattle.imap_views.specs.Views.{envelope, fields, structure}
use Rattle.imap_views.proofs.AsciiStructures.{header_ascii, structure_ascii, tree_ascii}
use Rattle.imap_views.proofs.AsciiViews.{chosen_ascii, has_envelope_ascii}
use Rattle.imap_views.proofs.GivenEnvelopes.{chosen_given, envelope_given}
use Rattle.imap_views.proofs.GivenStructures.{structure_given}
use Rattle.imap_views.proofs.SectionPlaces.{tree_has_header, tree_header_has_block}

-- ---- sections that are headers

-- the span is the header of an entity
record IsHeaderOfOne (outlines : List Outline) (span : Span) : Type 0 where
  number : ℕ
  outline : Outline
  is_outline : slice_get outlines number ≡ Some outline
  span_is : span ≡ header_of outline

header_at : (outlines : List Outline) (number : ℕ) (span : Span) (found : Option Outline) → slice_get outlines number ≡ found → option_map header_of found ≡ Some span → IsHeaderOfOne outlines span
header_at outlines number span None at is = absurd cc
header_at outlines number span (Some outline) at is = record { number = number; outline = outline; is_outline = at; span_is = sym (same_Some _ _ is) }

-- of the message that an entity holds
header_in : (outlines : List Outline) (number : ℕ) (span : Span) (shape : Shape) → option_map header_of (child_of outlines number shape) ≡ Some span → IsHeaderOfOne outlines span
header_in outlines number span Message is = header_at outlines (number + 1) span _ refl is
header_in outlines number span Multipart is = absurd cc
header_in outlines number span Leaf is = absurd cc

header_by : (outlines : List Outline) (number : ℕ) (span : Span) (found : Option Outline) → option_and_then (part_of outlines number Header) found ≡ Some span → IsHeaderOfOne outlines span
header_by outlines number span None is = absurd cc
header_by outlines number span (Some outline) is = header_in outlines number span outline.shape is

header_after : (outlines : List Outline) (span : Span) (found : Option ℕ) → option_and_then (part_at outlines Header) found ≡ Some span → IsHeaderOfOne outlines span
header_after outlines span None is = absurd cc
header_after outlines span (Some number) is = header_by outlines number span (slice_get outlines number) is

-- the header of the whole message
header_first : (outlines : List Outline) (span : Span) (found : Option Outline) → slice_get outlines 0 ≡ found → option_and_then (part_of_all Header) found ≡ Some span → IsHeaderOfOne outlines span
header_first outlines span None at is = absurd cc
header_first outlines span (Some outline) at is = record { number = 0; outline = outline; is_outline = at; span_is = sym (same_Some _ _ is) }

header_named : (outlines : List Outline) (path : List ℕ) (span : Span) → section outlines path Header ≡ Some span → IsHeaderOfOne outlines span
header_named outlines [] span is = header_first outlines span _ refl is
header_named outlines (n ∷ path) span is = header_after outlines span (named_by outlines (n ∷ path)) is

-- ---- what a legacy session is shown

-- an ASCII header with a block
pub record IsAsciiHeader (header : List ℕ) : Type 0 where
  pub block : HasSomeBlock header
  pub ascii : list_all is_ascii header ≡ true

module _ (oracles : Oracles) (are : AreOracles oracles) (octets : List ℕ) (blocks : HasAsciiBlocks octets) where
  outlines_are : outlines_of blocks.entities ≡ oracles.outlines octets
  outlines_are = are.entities octets blocks.entities blocks.tree

  -- what a section names that is a header
  pub ascii_header : (path : List ℕ) (span : Span) → section (oracles.outlines octets) path Header ≡ Some span → IsAsciiHeader (take span.len (drop span.at octets))
  ascii_header path span is =
      let found : section (outlines_of blocks.entities) path Header ≡ Some span = ap (λ outlines. section outlines path Header) outlines_are ∙ is in
      let named = header_named (outlines_of blocks.entities) path span found in
      let header = header_ascii octets (outlines_of blocks.entities) named.number named.outline (tree_ascii octets blocks.entities blocks blocks.tree) named.is_outline in
      record {
        block = tree_header_has_block octets blocks.entities blocks.tree path span found;
        ascii = subst (λ (one : Span). list_all is_ascii (take one.len (drop one.at octets)) ≡ true) (sym named.span_is) header;
      }

  -- the whole message has one
  pub first_header : (span : Span) × (section (oracles.outlines octets) [] Header ≡ Some span)
  first_header =
      let header = tree_has_header octets blocks.entities blocks.tree in
      (header.0, ap (λ outlines. section outlines [] Header) (sym outlines_are) ∙ header.1)

  pub ascii_structure : (extended : Bool) → list_all is_ascii (oracles.view_of (structure extended) octets) ≡ true
  ascii_structure extended =
      let given = structure_given extended octets blocks.entities blocks.tree in
      let is = given.1 in
      let same = are.views (structure extended) octets given.0 is in
      subst (λ text. list_all is_ascii text ≡ true) same (structure_ascii octets (Whole (record { entities = is.entities })) extended given.0 is.tree blocks is.structure)

pub ascii_envelope : (oracles : Oracles) → AreOracles oracles → (header : List ℕ) → IsAsciiHeader header → list_all is_ascii (oracles.view_of envelope header) ≡ true
ascii_envelope oracles are header is =
    let given = envelope_given header is.block in
    subst (λ text. list_all is_ascii text ≡ true) (are.views envelope header given.0 given.1) (has_envelope_ascii header given.0 given.1 is.ascii)

pub ascii_fields : (oracles : Oracles) → AreOracles oracles → (header : List ℕ) (names : List (List ℕ)) (negated : Bool) → IsAsciiHeader header
    → list_all is_ascii (oracles.view_of (fields names negated) header) ≡ true
ascii_fields oracles are header names negated is =
    let given = chosen_given header names negated is.block in
    subst (λ text. list_all is_ascii text ≡ true) (are.views (fields names negated) header given.0 given.1) (chosen_ascii header names negated given.0 given.1 is.ascii)
