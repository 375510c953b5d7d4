-- The lines of fields that are written anew.
use Rattle.std.proofs.Common.{ℕ, List, map}
use Rattle.std.specs.List.{AllZip, concat}
use Rattle.utf8_fields.specs.declared.block.Field.{Field}
use Rattle.utf8_fields.specs.Block.{AreFields, raw_of}
use Rattle.utf8_fields.proofs.LineShapes.{AreLines}
use Rattle.mime_tree.specs.Rewriting.{KeepsLine}
use Rattle.mime_tree.proofs.KeptLines.{new_sound_block}
use Rattle.mime_tree.proofs.Standing.{Stands, HasNewBlock}

-- the lines of fields that are written anew
pub new_block : (IsOne : List ℕ → List ℕ → Type 0) → ((raw made : List ℕ) → IsOne raw made → KeepsLine raw made) → (octets : List ℕ) (at : ℕ) (header : List (List ℕ)) (fields : List Field) (end : ℕ)
    → AreFields header at fields end → AreLines header → Stands octets at (concat header) → (made : List (List ℕ)) → AllZip IsOne (map (raw_of octets) fields) made → (new : List ℕ) (new_at : ℕ)
    → Stands new new_at (concat made) → HasNewBlock new new_at header made
new_block IsOne keeps = new_sound_block IsOne keeps (λ raw made is. (keeps raw made is).no_nul)
