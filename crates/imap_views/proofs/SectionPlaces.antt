-- Sections of what is shown stand in it: each is an entity that stands, its header or its content.
use Rattle.std.proofs.Common.{◌≡◌, ℕ, zero, suc, ◌+◌, ◌≤◌, ◌⊎◌, inl, inr, List, [], ◌∷◌, false, length, take, drop, Option, Some, None, option_and_then, option_map, arith, refl, sym, ap, ◌∙◌, subst}
use Rattle.std.specs.Prelude.{◌==◌}
use Rattle.std.proofs.lemmas.List.Elements.{All-get_or, All-weaker}
use Rattle.std.proofs.lemmas.Option.{cond_some, get_or_from_slice_get, none-some, option_and_then_some, same_Some, slice_get_within}
use Rattle.mail_wire.specs.declared.values.Span.{Span}
use Rattle.mime_tree.specs.declared.entity.Entity.{Entity}
use Rattle.mime_tree.specs.declared.entity.Shape.{Shape}
use Rattle.mime_tree.specs.declared.entity.Shape.TheVariants.{Leaf, Multipart, Message}
use Rattle.mime_tree.specs.declared.sections.Part.{Part}
use Rattle.mime_tree.specs.declared.sections.Part.TheVariants.{Whole, Header, Text, Mime}
use Rattle.mime_tree.specs.Outlines.{Outline, outlines_of}
use Rattle.mime_tree.specs.Sections.{children_from, child, itself, named_at, named, next_at, next, named_on, named_by, whole_of, header_of, content_of, child_of, part_of, part_at, part_of_all, section}
use Rattle.mime_tree.specs.Tree.{HasTree, depth_max}
use Rattle.surrogate_rope.specs.declared.shown.Shown.{Shown}
use Rattle.surrogate_rope.specs.Served.{IsShownOf, shown_octets, shown_outlines}
use Rattle.imap_views.specs.Fields.{HasSomeBlock}
use Rattle.imap_views.specs.Structures.{Seen}
use Rattle.imap_views.specs.private.Reading.{AreStanding, IsInPlace, IsStanding}
use Rattle.imap_views.proofs.Standing.{tree_stands, shown_stands}

-- the entity of this number stands, in however many levels
Stands : Seen → ℕ → Type 0
Stands seen number = (levels : ℕ) × IsStanding levels seen number

-- an entity that stands, and those directly in it
StandsWith : Seen → ℕ → Type 0
StandsWith seen number = (outline : Outline) × IsInPlace seen number outline × AreStanding (Stands seen) seen.outlines number outline.shape

are_standing : (levels : ℕ) (seen : Seen) (number : ℕ) (shape : Shape) → AreStanding (IsStanding levels seen) seen.outlines number shape → AreStanding (Stands seen) seen.outlines number shape
unfolding Stands
are_standing levels seen number Leaf are = tt
are_standing levels seen number Message are = (levels, are)
are_standing levels seen number Multipart are =
    All-weaker (IsStanding levels seen) (Stands seen) (λ inner stands. (levels, stands)) (children_from 0 seen.outlines number) are

opened : (seen : Seen) (number : ℕ) → Stands seen number → StandsWith seen number
unfolding Stands StandsWith IsStanding
opened seen number (zero, stands) = absurd stands
opened seen number (suc levels, stands) = (stands.0, stands.1, are_standing levels seen number stands.0.shape stands.2)

-- ---- the numbers of a path

itself_stands : (seen : Seen) (number n found : ℕ) → Stands seen number → itself number n ≡ Some found → Stands seen found
itself_stands seen number n found stands is = subst (Stands seen) (cond_some (n == 1) number found is).1 stands

child_stands : (seen : Seen) (number n found : ℕ) → AreStanding (Stands seen) seen.outlines number Multipart → child seen.outlines number n ≡ Some found → Stands seen found
child_stands seen number zero found are is = absurd (none-some found is)
child_stands seen number (suc n) found are is =
    let children = children_from 0 seen.outlines number in
    subst (Stands seen) (get_or_from_slice_get children n found found is) (All-get_or (Stands seen) children n found (slice_get_within children n found is) are)

named_at_stands : (seen : Seen) (number n : ℕ) (shape : Shape) (found : ℕ) → Stands seen number → AreStanding (Stands seen) seen.outlines number shape → named_at seen.outlines number n shape ≡ Some found
    → Stands seen found
named_at_stands seen number n Multipart found stands are is = child_stands seen number n found are is
named_at_stands seen number n Message found stands are is = itself_stands seen number n found stands is
named_at_stands seen number n Leaf found stands are is = itself_stands seen number n found stands is

named_stands : (seen : Seen) (number n found : ℕ) → Stands seen number → named seen.outlines number n ≡ Some found → Stands seen found
unfolding StandsWith
named_stands seen number n found stands is =
    let with = opened seen number stands in
    named_at_stands seen number n with.0.shape found stands with.2
    (sym (ap (option_and_then (λ (outline : Outline). named_at seen.outlines number n outline.shape)) with.1.is_outline) ∙ is)

next_at_stands : (seen : Seen) (number n : ℕ) (shape : Shape) (found : ℕ) → Stands seen number → AreStanding (Stands seen) seen.outlines number shape → next_at seen.outlines number n shape ≡ Some found
    → Stands seen found
next_at_stands seen number n Multipart found stands are is = named_stands seen number n found stands is
next_at_stands seen number n Message found stands are is = named_stands seen (number + 1) n found are is
next_at_stands seen number n Leaf found stands are is = named_stands seen number n found stands is

next_stands : (seen : Seen) (number n found : ℕ) → Stands seen number → next seen.outlines number n ≡ Some found → Stands seen found
unfolding StandsWith
next_stands seen number n found stands is =
    let with = opened seen number stands in
    next_at_stands seen number n with.0.shape found stands with.2
    (sym (ap (option_and_then (λ (outline : Outline). next_at seen.outlines number n outline.shape)) with.1.is_outline) ∙ is)

path_stands : (seen : Seen) (path : List ℕ) (number found : ℕ) → Stands seen number → named_on seen.outlines path number ≡ Some found → Stands seen found
unfolding named_on
path_stands seen [] number found stands is = subst (Stands seen) (same_Some number found is) stands
path_stands seen (n ∷ path) number found stands is =
    option_and_then_some (named_on seen.outlines path) (next seen.outlines number n) found is
    (λ after step rest. path_stands seen path after found (next_stands seen number n after stands step) rest)

named_by_stands : (seen : Seen) (path : List ℕ) (found : ℕ) → Stands seen 0 → named_by seen.outlines path ≡ Some found → Stands seen found
named_by_stands seen [] found stands is = absurd (none-some found is)
named_by_stands seen (n ∷ path) found stands is =
    option_and_then_some (named_on seen.outlines path) (named seen.outlines 0 n) found is
    (λ first step rest. path_stands seen path first found (named_stands seen 0 n first stands step) rest)

-- ---- what is asked of an entity

-- what is asked of an entity is all of it, its header or its content
abbrev IsPieceOf : Outline → Part → Span → Type 0
IsPieceOf outline Whole span = (span ≡ whole_of outline) ⊎ (span ≡ content_of outline)
IsPieceOf outline Header span = span ≡ header_of outline
IsPieceOf outline Text span = span ≡ content_of outline
IsPieceOf outline Mime span = span ≡ header_of outline

-- the span is what is asked of an entity in place
HasPlace : Seen → Part → Span → Type 0
HasPlace seen part span = (number : ℕ) × (outline : Outline) × IsInPlace seen number outline × IsPieceOf outline part span

mapped : (f : Outline → Span) (one : Option Outline) (span : Span) → option_map f one ≡ Some span → (outline : Outline) × (one ≡ Some outline) × (span ≡ f outline)
mapped f None span is = absurd (none-some span is)
mapped f (Some outline) span is = (outline, refl, sym (same_Some (f outline) span is))

-- the child of a message is in place
child_placed : (seen : Seen) (number : ℕ) (shape : Shape) (child : Outline) → AreStanding (Stands seen) seen.outlines number shape → child_of seen.outlines number shape ≡ Some child
    → IsInPlace seen (number + 1) child
unfolding StandsWith
child_placed seen number Multipart child are is = absurd (none-some child is)
child_placed seen number Leaf child are is = absurd (none-some child is)
child_placed seen number Message child are is =
    let with = opened seen (number + 1) are in
    subst (IsInPlace seen (number + 1)) (same_Some with.0 child (sym with.1.is_outline ∙ is)) with.1

part_placed : (seen : Seen) (number : ℕ) (outline : Outline) (part : Part) (span : Span) → IsInPlace seen number outline → AreStanding (Stands seen) seen.outlines number outline.shape
    → part_of seen.outlines number part outline ≡ Some span → HasPlace seen part span
unfolding HasPlace
part_placed seen number outline Whole span place are is = (number, outline, place, inr (sym (same_Some (content_of outline) span is)))
part_placed seen number outline Mime span place are is = (number, outline, place, sym (same_Some (header_of outline) span is))
part_placed seen number outline Header span place are is =
    let child = mapped header_of (child_of seen.outlines number outline.shape) span is in
    (number + 1, child.0, child_placed seen number outline.shape child.0 are child.1, child.2)
part_placed seen number outline Text span place are is =
    let child = mapped content_of (child_of seen.outlines number outline.shape) span is in
    (number + 1, child.0, child_placed seen number outline.shape child.0 are child.1, child.2)

part_at_placed : (seen : Seen) (part : Part) (number : ℕ) (span : Span) → Stands seen number → part_at seen.outlines part number ≡ Some span → HasPlace seen part span
unfolding StandsWith
part_at_placed seen part number span stands is =
    let with = opened seen number stands in
    part_placed seen number with.0 part span with.1 with.2 (sym (ap (option_and_then (part_of seen.outlines number part)) with.1.is_outline) ∙ is)

all_placed : (seen : Seen) (outline : Outline) (part : Part) (span : Span) → IsInPlace seen 0 outline → part_of_all part outline ≡ Some span → HasPlace seen part span
unfolding HasPlace
all_placed seen outline Whole span place is = (0, outline, place, inl (sym (same_Some (whole_of outline) span is)))
all_placed seen outline Header span place is = (0, outline, place, sym (same_Some (header_of outline) span is))
all_placed seen outline Text span place is = (0, outline, place, sym (same_Some (content_of outline) span is))
all_placed seen outline Mime span place is = absurd (none-some span is)

section_placed : (seen : Seen) (path : List ℕ) (part : Part) (span : Span) → Stands seen 0 → section seen.outlines path part ≡ Some span → HasPlace seen part span
unfolding StandsWith
section_placed seen [] part span stands is =
    let with = opened seen 0 stands in
    all_placed seen with.0 part span with.1 (sym (ap (option_and_then (part_of_all part)) with.1.is_outline) ∙ is)
section_placed seen (n ∷ path) part span stands is =
    option_and_then_some (part_at seen.outlines part) (named_by seen.outlines (n ∷ path)) span is
    (λ found named of. part_at_placed seen part found span (named_by_stands seen (n ∷ path) found stands named) of)

-- ---- sections of what stands

abbrev IsWithin : List ℕ → Span → Type 0
IsWithin octets span = span.at + span.len ≤ length octets

abbrev octets_at : List ℕ → Span → List ℕ
octets_at octets span = take span.len (drop span.at octets)

piece_within : (seen : Seen) (number : ℕ) (outline : Outline) (part : Part) (span : Span) → IsInPlace seen number outline → IsPieceOf outline part span → IsWithin seen.octets span
piece_within seen number outline part span place piece =
    let header = place.header in
    let content = place.content in
    let end = place.within in
    let header_within : IsWithin seen.octets (header_of outline) = omega arith in
    let content_within : IsWithin seen.octets (content_of outline) = omega arith in
    let whole_within : IsWithin seen.octets (whole_of outline) = omega arith in
    go part piece header_within content_within whole_within
  where
    go : (part : Part) → IsPieceOf outline part span → IsWithin seen.octets (header_of outline) → IsWithin seen.octets (content_of outline) → IsWithin seen.octets (whole_of outline)
        → IsWithin seen.octets span
    go Whole piece header content whole = elim piece [ inl is ↦ rw is whole | inr is ↦ rw is content ]
    go Header piece header content whole = rw piece header
    go Text piece header content whole = rw piece content
    go Mime piece header content whole = rw piece header

section_within : (levels : ℕ) (seen : Seen) → IsStanding levels seen 0 → (path : List ℕ) (part : Part) (span : Span) → section seen.outlines path part ≡ Some span → IsWithin seen.octets span
unfolding Stands HasPlace
section_within levels seen stands path part span is =
    let placed = section_placed seen path part span (levels, stands) is in
    piece_within seen placed.0 placed.1 part span placed.2 placed.3

header_has_block : (levels : ℕ) (seen : Seen) → IsStanding levels seen 0 → (path : List ℕ) (span : Span) → section seen.outlines path Header ≡ Some span → HasSomeBlock (octets_at seen.octets span)
unfolding Stands HasPlace
header_has_block levels seen stands path span is =
    let placed = section_placed seen path Header span (levels, stands) is in
    subst (λ one. HasSomeBlock (octets_at seen.octets one)) (sym placed.3) placed.2.has_block

has_header : (levels : ℕ) (seen : Seen) → IsStanding levels seen 0 → (span : Span) × (section seen.outlines [] Header ≡ Some span)
unfolding Stands StandsWith
has_header levels seen stands =
    let with = opened seen 0 (levels, stands) in
    (header_of with.0, ap (option_and_then (part_of_all Header)) with.1.is_outline)

-- ---- sections of octets with a tree

pub tree_section_within : (octets : List ℕ) (entities : List Entity) → HasTree octets entities → (path : List ℕ) (part : Part) (span : Span) → section (outlines_of entities) path part ≡ Some span
    → span.at + span.len ≤ length octets
tree_section_within octets entities tree path part span is = section_within (depth_max + 1) _ (tree_stands octets entities false tree) path part span is

pub tree_header_has_block : (octets : List ℕ) (entities : List Entity) → HasTree octets entities → (path : List ℕ) (span : Span) → section (outlines_of entities) path Header ≡ Some span
    → HasSomeBlock (take span.len (drop span.at octets))
tree_header_has_block octets entities tree path span is = header_has_block (depth_max + 1) _ (tree_stands octets entities false tree) path span is

pub tree_has_header : (octets : List ℕ) (entities : List Entity) → HasTree octets entities → (span : Span) × (section (outlines_of entities) [] Header ≡ Some span)
tree_has_header octets entities tree = has_header (depth_max + 1) _ (tree_stands octets entities false tree)

-- ---- sections of what is shown

pub shown_section_within : (msg : List ℕ) (shown : Shown) (path : List ℕ) (part : Part) (span : Span) → IsShownOf msg shown → section (shown_outlines shown) path part ≡ Some span
    → span.at + span.len ≤ length (shown_octets msg shown)
shown_section_within msg shown path part span shows is = section_within 33 _ (shown_stands msg shown false shows) path part span is

pub shown_header_has_block : (msg : List ℕ) (shown : Shown) (path : List ℕ) (span : Span) → IsShownOf msg shown → section (shown_outlines shown) path Header ≡ Some span
    → HasSomeBlock (take span.len (drop span.at (shown_octets msg shown)))
shown_header_has_block msg shown path span shows is = header_has_block 33 _ (shown_stands msg shown false shows) path span is

pub shown_has_header : (msg : List ℕ) (shown : Shown) → IsShownOf msg shown → (span : Span) × (section (shown_outlines shown) [] Header ≡ Some span)
shown_has_header msg shown shows = has_header 33 _ (shown_stands msg shown false shows)
