-- What stands in place has a structure.
use Rattle.std.proofs.Common.{ℕ, zero, suc, ◌+◌, List, [], ◌∷◌, ◌++◌, Bool, false, refl}
use Rattle.std.specs.List.{All}
use Rattle.std.proofs.lemmas.List.Elements.{All-head, All-tail}
use Rattle.mime_tree.specs.declared.entity.Entity.{Entity}
use Rattle.mime_tree.specs.declared.entity.Shape.{Shape}
use Rattle.mime_tree.specs.declared.entity.Shape.TheVariants.{Leaf, Multipart, Message}
use Rattle.mime_tree.specs.Openings.{is_digest_type}
use Rattle.mime_tree.specs.Outlines.{Outline}
use Rattle.mime_tree.specs.Sections.{children_from}
use Rattle.mime_tree.specs.Tree.{HasTree, depth_max}
use Rattle.imap_views.specs.Parts.{PartValue}
use Rattle.imap_views.specs.Structures.{Seen, header_at, leaf_form, message_form, multipart_form, FormRelation, AreForms, IsShapedForm, IsPartAt, IsForm}
use Rattle.imap_views.specs.Views.{IsStructureOf}
use Rattle.imap_views.specs.private.Reading.{AreStanding, IsInPlace, IsStanding}
use Rattle.imap_views.proofs.RawFields.{some_raws, have_firsts}
use Rattle.imap_views.proofs.GivenEnvelopes.{envelope_given}
use Rattle.imap_views.proofs.DecidingParts.{part_given}
use Rattle.imap_views.proofs.Standing.{tree_stands}

-- what stands has a form
unfoldable IsGiven : (ℕ → Type 0) → FormRelation → Type 0
IsGiven Stands IsOne = (digest : Bool) (number : ℕ) → Stands number → (text : List ℕ) × IsOne digest number text

forms_given : (Stands : ℕ → Type 0) (IsOne : FormRelation) → IsGiven Stands IsOne → (digest : Bool) (numbers : List ℕ) → All Stands numbers → (text : List ℕ) × AreForms IsOne digest numbers text
unfolding IsGiven
forms_given Stands IsOne given digest [] all = ([], refl)
forms_given Stands IsOne given digest (number ∷ numbers) all =
    let first = given digest number (All-head Stands number numbers all) in
    let others = forms_given Stands IsOne given digest numbers (All-tail Stands number numbers all) in
    (first.0 ++ others.0, (first.0, others.0, refl, first.1, others.1))

-- what stands has an outline
place_of : (levels : ℕ) (seen : Seen) (number : ℕ) → IsStanding levels seen number → (outline : Outline) × IsInPlace seen number outline
unfolding IsStanding
place_of zero seen number stands = absurd stands
place_of (suc levels) seen number stands = (stands.0, stands.1)

shaped_given : (levels : ℕ) (seen : Seen) → IsGiven (IsStanding levels seen) (IsForm levels seen) → (number : ℕ) (outline : Outline) (part : PartValue) (shape : Shape)
    → AreStanding (IsStanding levels seen) seen.outlines number shape → (text : List ℕ) × IsShapedForm (IsForm levels seen) seen number outline part text shape
unfolding IsGiven
shaped_given levels seen given number outline part Leaf are = (leaf_form seen outline part, refl)
shaped_given levels seen given number outline part Message are =
    let child = place_of levels seen (number + 1) are in
    let envelope = envelope_given (header_at seen child.0) child.1.has_block in
    let body = given false (number + 1) are in (
      message_form seen outline part envelope.0 body.0,
      record {
        child = child.0;
        has_child = child.1.is_outline;
        envelope = envelope.0;
        is_envelope = envelope.1;
        body = body.0;
        is_body = body.1;
        text_is = refl;
      },
    )
shaped_given levels seen given number outline part Multipart are =
    let parts = forms_given (IsStanding levels seen) (IsForm levels seen) given (is_digest_type part.typed.main) (children_from 0 seen.outlines number) are in
    (multipart_form seen part parts.0, record { parts = parts.0; are_parts = parts.1; text_is = refl })

form_given : (levels : ℕ) (seen : Seen) → IsGiven (IsStanding levels seen) (IsForm levels seen)
unfolding IsGiven IsStanding IsForm
form_given zero seen = λ digest number stands. absurd stands
form_given (suc levels) seen = λ digest number stands.
    let raws = some_raws (header_at seen stands.0) stands.1.has_block in
    let part = part_given digest raws.0 (have_firsts (header_at seen stands.0) raws.0 raws.1) in
    let is : IsPartAt seen digest number =
    record { outline = stands.0; is_outline = stands.1.is_outline; raws = raws.0; has_raws = raws.1; part = part.0; says = part.1 } in
    let form = shaped_given levels seen (form_given levels seen) number stands.0 part.0 stands.0.shape stands.2 in
    (form.0, (is, form.1))

-- octets with a tree have a structure
pub structure_given : (extended : Bool) (octets : List ℕ) (entities : List Entity) → HasTree octets entities → (text : List ℕ) × IsStructureOf extended octets text
unfolding IsGiven
structure_given extended octets entities tree =
    let form = form_given (depth_max + 1) _ false 0 (tree_stands octets entities extended tree) in
    (form.0, record { entities = entities; tree = tree; structure = form.1 })
