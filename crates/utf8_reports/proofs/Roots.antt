-- The header block of a whole message, by its tree.
use Rattle.std.proofs.Common.{◌≡◌, ℕ, ◌<◌, nat_eq, List, [], ◌∷◌, Some, length, sym, ap, subst, ◌∙◌, arith}
use Rattle.std.proofs.lemmas.Bool.Decides.{nat_tests}
use Rattle.std.specs.Prelude.{slice_index_or, IsTrue}
use Rattle.mail_wire.specs.Lines.{lines_of}
use Rattle.utf8_fields.specs.declared.block.Field.{Field}
use Rattle.utf8_fields.specs.Block.{HasBlock}
use Rattle.utf8_fields.proofs.OneBlock.{same_block}
use Rattle.mime_tree.specs.declared.entity.Entity.{Entity}
use Rattle.mime_tree.specs.declared.sections.Part.TheVariants.{Header}
use Rattle.mime_tree.specs.Outlines.{Outline, outline_of, outlines_of}
use Rattle.mime_tree.specs.Sections.{header_of, section}
use Rattle.mime_tree.specs.Tree.{HasTree, IsEntity}
use Rattle.mail_wire.specs.declared.values.Span.{Span}

-- the first entity is the whole message
pub record HasRoot (octets : List ℕ) (entities : List Entity) : Type 0 where
  pub entity : Entity
  pub inner : List Entity
  pub entities_are : entities ≡ entity ∷ inner
  pub has_block : HasBlock octets entity.block.fields entity.block.end

pub root_block : (octets : List ℕ) (entities : List Entity) → HasTree octets entities → HasRoot octets entities
unfolding IsEntity
root_block octets entities tree =
    let is = tree.root.0 in
    record { entity = is.entity; inner = is.inner; entities_are = is.entities_are; has_block = is.head.has_block }

pub some_root : (octets : List ℕ) (entities : List Entity) → HasTree octets entities → 0 < length entities
some_root octets entities tree = let size = ap length (root_block octets entities tree).entities_are in omega arith

pub first_block : (octets : List ℕ) (entities : List Entity) (first : Entity) → HasTree octets entities → first ≡ slice_index_or entities 0 first
    → HasBlock octets first.block.fields first.block.end
first_block octets entities first tree is =
    let root = root_block octets entities tree in
    let same : root.entity ≡ first = sym (is ∙ ap (λ l. slice_index_or l 0 first) root.entities_are) in
    subst (λ (e : Entity). HasBlock octets e.block.fields e.block.end) same root.has_block

pub whole_block : (octets : List ℕ) (entities : List Entity) (first : Entity) → HasTree octets entities → first ≡ slice_index_or entities 0 first
    → (IsTrue (nat_eq first.block.end (length octets)) → (fields : List Field) × HasBlock octets fields (length octets))
    × (((fields : List Field) × HasBlock octets fields (length octets)) → IsTrue (nat_eq first.block.end (length octets)))
whole_block octets entities first tree is =
    let block = first_block octets entities first tree is in (
      (λ t. (first.block.fields, subst (λ e. HasBlock octets first.block.fields e) (grind (arith, nat_tests)) block)),
      (λ other. let same = (same_block (lines_of octets) 0 first.block.fields other.0 first.block.end (length octets) block other.1).1 in grind (arith, nat_tests)),
    )

-- the header of the whole message is a section
pub header_there : (octets : List ℕ) (entities : List Entity) (outlines : List Outline) → HasTree octets entities → outlines ≡ outlines_of entities
    → (span : Span) × (section outlines [] Header ≡ Some span)
header_there octets entities outlines tree is =
    let root = root_block octets entities tree in
    (header_of (outline_of root.entity), ap (λ l. section l [] Header) (is ∙ ap outlines_of root.entities_are))
