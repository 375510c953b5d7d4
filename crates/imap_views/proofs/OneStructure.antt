-- There is one structure at most.
use Rattle.std.proofs.Common.{◌≡◌, ℕ, zero, suc, ◌+◌, List, [], ◌∷◌, Bool, false, Some, sym, ap, ◌∙◌, subst}
use Rattle.mime_tree.specs.declared.entity.Shape.{Shape}
use Rattle.mime_tree.specs.declared.entity.Shape.TheVariants.{Leaf, Multipart, Message}
use Rattle.mime_tree.specs.Openings.{is_digest_type}
use Rattle.mime_tree.specs.Outlines.{Outline, outlines_of}
use Rattle.mime_tree.specs.Sections.{children_from}
use Rattle.mime_tree.specs.Tree.{depth_max}
use Rattle.mime_tree.proofs.OneTree.{one_tree}
use Rattle.imap_views.specs.Envelopes.{HasEnvelope}
use Rattle.imap_views.specs.Parts.{PartValue}
use Rattle.imap_views.specs.Structures.{Seen, header_at, message_form, multipart_form, FormRelation, AreForms, IsMessageForm, IsMultipartForm, IsShapedForm, IsPartAt, IsForm, HasStructure}
use Rattle.imap_views.specs.Views.{IsStructureOf}
use Rattle.imap_views.proofs.RawFields.{raws_once}
use Rattle.imap_views.proofs.OneEnvelope.{one_envelope}
use Rattle.imap_views.proofs.OnePart.{one_part}

-- an entity has one form at most
unfoldable IsOnce : FormRelation → Type 0
IsOnce IsOne = (digest : Bool) (number : ℕ) (text other : List ℕ) → IsOne digest number text → IsOne digest number other → text ≡ other

forms_once : (IsOne : FormRelation) → IsOnce IsOne → (digest : Bool) (numbers : List ℕ) (text other : List ℕ) → AreForms IsOne digest numbers text → AreForms IsOne digest numbers other → text ≡ other
unfolding IsOnce
forms_once IsOne once digest [] text other a b = a ∙ sym b
forms_once IsOne once digest (number ∷ numbers) text other a b =
    let first : a.0 ≡ b.0 = once digest number a.0 b.0 a.3 b.3 in
    let others : a.1 ≡ b.1 = forms_once IsOne once digest numbers a.1 b.1 a.4 b.4 in
    a.2 ∙ rw (first, others) (sym b.2)

same_outline : (outline other : Outline) → Some outline ≡ Some other → outline ≡ other
same_outline outline other e = cc e

message_once : (IsOne : FormRelation) → IsOnce IsOne → (seen : Seen) (number : ℕ) (outline : Outline) (part : PartValue) (text other : List ℕ)
    → IsMessageForm IsOne seen number outline part text → IsMessageForm IsOne seen number outline part other → text ≡ other
unfolding IsOnce
message_once IsOne once seen number outline part text other a b =
    let child : a.child ≡ b.child = same_outline a.child b.child (sym a.has_child ∙ b.has_child) in
    let envelope : a.envelope ≡ b.envelope =
    one_envelope (header_at seen b.child) a.envelope b.envelope (subst (λ child. HasEnvelope (header_at seen child) a.envelope) child a.is_envelope) b.is_envelope in
    let body : a.body ≡ b.body = once false (number + 1) a.body b.body a.is_body b.is_body in
    a.text_is ∙ ap (λ text. message_form seen outline part text a.body) envelope ∙ ap (λ text. message_form seen outline part b.envelope text) body ∙ sym b.text_is

multipart_once : (IsOne : FormRelation) → IsOnce IsOne → (seen : Seen) (number : ℕ) (part : PartValue) (text other : List ℕ)
    → IsMultipartForm IsOne seen number part text → IsMultipartForm IsOne seen number part other → text ≡ other
multipart_once IsOne once seen number part text other a b =
    let parts : a.parts ≡ b.parts = forms_once IsOne once (is_digest_type part.typed.main) (children_from 0 seen.outlines number) a.parts b.parts a.are_parts b.are_parts in
    a.text_is ∙ ap (λ text. multipart_form seen part text) parts ∙ sym b.text_is

shaped_once : (IsOne : FormRelation) → IsOnce IsOne → (seen : Seen) (number : ℕ) (outline : Outline) (part : PartValue) (text other : List ℕ) (shape : Shape)
    → IsShapedForm IsOne seen number outline part text shape → IsShapedForm IsOne seen number outline part other shape → text ≡ other
shaped_once IsOne once seen number outline part text other Leaf a b = a ∙ sym b
shaped_once IsOne once seen number outline part text other Message a b = message_once IsOne once seen number outline part text other a b
shaped_once IsOne once seen number outline part text other Multipart a b = multipart_once IsOne once seen number part text other a b

-- the entity of a number is one, and says one thing of itself
record IsSamePart (outline other : Outline) (part another : PartValue) : Type 0 where
  outlines : outline ≡ other
  parts : part ≡ another

part_once : (seen : Seen) (digest : Bool) (number : ℕ) (a b : IsPartAt seen digest number) → IsSamePart a.outline b.outline a.part b.part
part_once seen digest number a b =
    let outline : a.outline ≡ b.outline = same_outline a.outline b.outline (sym a.is_outline ∙ b.is_outline) in
    let raws : a.raws ≡ b.raws = raws_once (header_at seen b.outline) a.raws b.raws (rw outline at a.has_raws) b.has_raws in
    record { outlines = outline; parts = one_part digest b.raws a.part b.part (rw raws at a.says) b.says }

one_form : (levels : ℕ) (seen : Seen) → IsOnce (IsForm levels seen)
unfolding IsOnce IsForm
one_form zero seen = λ digest number text other a b. absurd a
one_form (suc levels) seen = λ digest number text other a b.
    let same = part_once seen digest number a.0 b.0 in
    let outline = subst (λ outline. IsShapedForm (IsForm levels seen) seen number outline a.0.part text outline.shape) same.outlines a.1 in
    let part = subst (λ part. IsShapedForm (IsForm levels seen) seen number b.0.outline part text b.0.outline.shape) same.parts outline in
    shaped_once (IsForm levels seen) (one_form levels seen) seen number b.0.outline b.0.part text other b.0.outline.shape part b.1

pub one_structure : (seen : Seen) (text other : List ℕ) → HasStructure seen text → HasStructure seen other → text ≡ other
unfolding IsOnce
one_structure seen text other a b = one_form (depth_max + 1) seen false 0 text other a b

-- octets have one structure at most
pub structure_once : (extended : Bool) (octets text other : List ℕ) → IsStructureOf extended octets text → IsStructureOf extended octets other → text ≡ other
structure_once extended octets text other a b =
    let same : a.entities ≡ b.entities = one_tree octets a.entities b.entities a.tree b.tree in
    let moved = subst (λ entities. HasStructure (record { octets = octets; outlines = outlines_of entities; extended = extended }) text) same a.structure in
    one_structure (record { octets = octets; outlines = outlines_of b.entities; extended = extended }) text other moved b.structure
