-- An entity in a list of them.
use Rattle.std.proofs.Common.{◌≡◌, ℕ, List, ◌∷◌, ◌++◌, length, get_or, ◌∙◌}
use Rattle.std.proofs.Math.ListN.{set}
use Rattle.std.proofs.Math.Seq.{set-append_seam, get_or-append_seam}
use Rattle.mime_tree.specs.declared.entity.Entity.{Entity}
use Rattle.mime_tree.specs.declared.entity.Shape.{Shape}

pub settled : (items before rest : List Entity) (number end : ℕ) (shape : Shape) (found entity : Entity) → found ≡ get_or items number found → items ≡ before ++ entity ∷ rest → length before ≡ number
    → set items number (record found { end = end; shape = shape }) ≡ before ++ record entity { end = end; shape = shape } ∷ rest
settled items before rest number end shape found entity found_is is len =
    let same : found ≡ entity = found_is ∙ rw (is, ← len) (get_or-append_seam before entity rest found) in
    rw (same, is, ← len) (set-append_seam before entity rest (record entity { end = end; shape = shape }))
