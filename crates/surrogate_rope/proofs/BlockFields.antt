-- The fields of a block, one after the other.
use Rattle.std.proofs.Common.{◌≡◌, ℕ, ◌+◌, ◌<◌, ◌≤◌, List, ◌∷◌, length, take, drop, get_or, map, sym, ap, ◌∙◌, subst}
use Rattle.std.proofs.lemmas.List.{take_all, drop_more, drop_all}
use Rattle.utf8_fields.specs.declared.block.Field.{Field}
use Rattle.utf8_fields.specs.Block.{raw_of}
use Rattle.field_downgrade.specs.Message.{IsServedField}
use Rattle.mime_tree.specs.declared.entity.Entity.{Entity}
use Rattle.mime_tree.specs.Openings.{AreFieldsJoined}
use Rattle.mime_tree.specs.Tree.{raws_of}
use Rattle.surrogate_rope.specs.declared.building.Made.{Made}
use Rattle.surrogate_rope.specs.Layout.{InEntity}
use Rattle.surrogate_rope.specs.private.Building.{ReachesPlace, written, AddsField, AddsBlock}
use Rattle.surrogate_rope.proofs.AddedFields.{no_fields, field_more}

-- The first fields of the block are made, and the others stand after them.
pub record IsBlockSoFar (msg : List ℕ) (entity : Entity) (fields : List Field) (i : ℕ) (old made : Made) : Type 0 where
  pub at : ℕ
  pub stands : ReachesPlace msg at made
  pub joined : AreFieldsJoined at (drop i fields) entity.block.end
  pub adds : AddsBlock (InEntity IsServedField msg entity) (map (raw_of msg) (take i fields)) (written msg entity.at old) (written msg at made)

pub no_field_yet : (msg : List ℕ) (entity : Entity) (fields : List Field) (old : Made) → fields ≡ entity.block.fields → ReachesPlace msg entity.at old → AreFieldsJoined entity.at entity.block.fields entity.block.end
    → IsBlockSoFar msg entity fields 0 old old
no_field_yet msg entity fields old same stands joined = record {
  at = entity.at;
  stands = stands;
  joined = rw same joined;
  adds = no_fields (InEntity IsServedField msg entity) (written msg entity.at old);
}

-- where the next field is
next_field : (msg : List ℕ) (entity : Entity) (fields : List Field) (i : ℕ) (d : Field) (old made : Made) → i < length fields → (so_far : IsBlockSoFar msg entity fields i old made)
    → AreFieldsJoined so_far.at (get_or fields i d ∷ drop (i + 1) fields) entity.block.end
next_field msg entity fields i d old made inside so_far = subst (λ all. AreFieldsJoined so_far.at all entity.block.end) (drop_more fields i d inside) so_far.joined

pub field_next : (msg : List ℕ) (entity : Entity) (fields : List Field) (i : ℕ) (d : Field) (old made : Made) → i < length fields → IsBlockSoFar msg entity fields i old made → ReachesPlace msg (get_or fields i d).raw.at made
field_next msg entity fields i d old made inside so_far = rw (next_field msg entity fields i d old made inside so_far).0 so_far.stands

pub field_done : (msg : List ℕ) (entity : Entity) (fields : List Field) (i : ℕ) (d : Field) (old made new : Made) → i < length fields → IsBlockSoFar msg entity fields i old made
    → ReachesPlace msg ((get_or fields i d).raw.at + (get_or fields i d).raw.len) new
    → AddsField (InEntity IsServedField msg entity (raw_of msg (get_or fields i d))) (raw_of msg (get_or fields i d)) (written msg (get_or fields i d).raw.at made)
    (written msg ((get_or fields i d).raw.at + (get_or fields i d).raw.len) new)
    → IsBlockSoFar msg entity fields (i + 1) old new
field_done msg entity fields i d old made new inside so_far stands adds =
    let field : Field = get_or fields i d in
    let next = next_field msg entity fields i d old made inside so_far in
    record {
      at = field.raw.at + field.raw.len;
      stands = stands;
      joined = subst (λ at. AreFieldsJoined (at + field.raw.len) (drop (i + 1) fields) entity.block.end) (sym next.0) next.1;
      adds = field_more (InEntity IsServedField msg entity) msg (written msg entity.at old) (written msg so_far.at made) (written msg (field.raw.at + field.raw.len) new) fields i d inside so_far.adds
          (subst (λ at. AddsField (InEntity IsServedField msg entity (raw_of msg field)) (raw_of msg field) (written msg at made) (written msg (field.raw.at + field.raw.len) new)) next.0 adds);
    }

-- all fields of the block are made
pub record IsBlockDone (msg : List ℕ) (entity : Entity) (old made : Made) : Type 0 where
  pub stands : ReachesPlace msg entity.block.end made
  pub adds : AddsBlock (InEntity IsServedField msg entity) (raws_of msg entity.block) (written msg entity.at old) (written msg entity.block.end made)

pub block_done : (msg : List ℕ) (entity : Entity) (fields : List Field) (i : ℕ) (old made : Made) → fields ≡ entity.block.fields → length fields ≤ i → IsBlockSoFar msg entity fields i old made → IsBlockDone msg entity old made
block_done msg entity fields i old made same all so_far =
    let end : so_far.at ≡ entity.block.end = subst (λ rest. AreFieldsJoined so_far.at rest entity.block.end) (drop_all i fields all) so_far.joined in
    let raws : map (raw_of msg) (take i fields) ≡ raws_of msg entity.block = ap (map (raw_of msg)) (take_all i fields all ∙ same) in
    record {
      stands = subst (λ at. ReachesPlace msg at made) end so_far.stands;
      adds = subst (λ at. AddsBlock (InEntity IsServedField msg entity) (raws_of msg entity.block) (written msg entity.at old) (written msg at made)) end
          (subst (λ all_raws. AddsBlock (InEntity IsServedField msg entity) all_raws (written msg entity.at old) (written msg so_far.at made)) raws so_far.adds);
    }
