-- Whether an entity is an opened message/global.
use Rattle.std.proofs.Common.{◌≡◌, ◌↔◌, ℕ, List, false, Some, None, IsTrue, Option, map}
use Rattle.std.specs.Prelude.{codes}
use Rattle.std.specs.Option.{IfNone}
use Rattle.param_2231.specs.GlobalTypes.{NamesGlobal}
use Rattle.utf8_fields.specs.declared.block.Field.{Field}
use Rattle.utf8_fields.specs.Block.{raw_of}
use Rattle.mime_tree.specs.declared.entity.Entity.{Entity}
use Rattle.mime_tree.specs.Openings.{IsFirstValue}
use Rattle.mime_tree.specs.Tree.{raws_of}
use Rattle.mime_tree.proofs.OneOpening.{first_once}
use Rattle.surrogate_rope.specs.Layout.{IsOpenGlobal}

-- it isn't one
pub closed : (msg : List ℕ) (entity : Entity) → ¬ IsOpenGlobal msg entity → IsTrue false ↔ IsOpenGlobal msg entity
closed msg entity none = (λ is. absurd (clash is), λ is. absurd (none is))
  where
    clash : IsTrue false → ⊥
    clash is = cc is

-- no field says what it is
pub without_type : (msg : List ℕ) (entity : Entity) → IsFirstValue (codes "Content-Type") (raws_of msg entity.block) None → ¬ IsOpenGlobal msg entity
without_type msg entity first is =
    let clash = first_once (codes "Content-Type") (raws_of msg entity.block) None (Some is.text) first is.first in cc clash

-- it is another type
pub other_type : (msg : List ℕ) (entity : Entity) (text : List ℕ) → IsFirstValue (codes "Content-Type") (raws_of msg entity.block) (Some text) → ((at : ℕ) → ¬ NamesGlobal text at) → ¬ IsOpenGlobal msg entity
other_type msg entity text first none is =
    let same : text ≡ is.text = let equal = first_once (codes "Content-Type") (raws_of msg entity.block) (Some text) (Some is.text) first is.first in cc equal in
    none is.at (rw same is.names)

-- the same of the fields that were looked through, and what was found
pub closed_without_type : (msg : List ℕ) (entity : Entity) (fields : List Field) (found : Option (List ℕ)) → fields ≡ entity.block.fields → IsFirstValue (codes "Content-Type") (map (raw_of msg) fields) found
    → found ≡ None → IsTrue false ↔ IsOpenGlobal msg entity
closed_without_type msg entity fields found are first is = closed msg entity (without_type msg entity (rw (are, is) at first))

pub closed_as_other : (msg : List ℕ) (entity : Entity) (fields : List Field) (found : Option (List ℕ)) (text : List ℕ) (place : Option ℕ) → fields ≡ entity.block.fields
    → IsFirstValue (codes "Content-Type") (map (raw_of msg) fields) found → found ≡ Some text → IfNone place ((at : ℕ) → ¬ NamesGlobal text at) → place ≡ None → IsTrue false ↔ IsOpenGlobal msg entity
closed_as_other msg entity fields found text place are first is none place_is = closed msg entity (other_type msg entity text (rw (are, is) at first) (rw place_is at none))
