-- A message has one layout at most.
use Rattle.std.proofs.Common.{◌≡◌, ◌↔◌, IsTrue, ℕ, Bool, true, false, List, [], ◌∷◌, ◌++◌, length, slice_range, refl, sym, ap, ◌∙◌, subst}
use Rattle.std.specs.List.{AllZip, concat}
use Rattle.mime_tree.specs.declared.entity.Entity.{Entity}
use Rattle.mime_tree.specs.Rewriting.{FieldRelation, RewritesBlocks}
use Rattle.mime_tree.specs.Tree.{HasTree, raws_of}
use Rattle.mime_tree.proofs.OneTree.{one_tree}
use Rattle.field_downgrade.specs.Stands.{HasFieldLayout}
use Rattle.field_downgrade.proofs.OneLayout.{HasFieldLayout-once}
use Rattle.surrogate_rope.specs.Layout.{HasLayout, InEntity, IsOpenGlobal}

-- two answers to one question
one_answer : (P : Type 0) (answer other : Bool) → IsTrue answer ↔ P → IsTrue other ↔ P → answer ≡ other
one_answer P true other is also = sym (also.1 (is.0 refl))
one_answer P false true is also = is.1 (also.0 refl)
one_answer P false false is also = refl

-- a field of an entity has one layout
pub field_once : (msg : List ℕ) (entity : Entity) (raw made other : List ℕ) → InEntity HasFieldLayout msg entity raw made → InEntity HasFieldLayout msg entity raw other → made ≡ other
field_once msg entity raw made other is also =
    let same : also.open_global ≡ is.open_global = one_answer (IsOpenGlobal msg entity) also.open_global is.open_global also.is_open is.is_open in
    HasFieldLayout-once is.open_global raw made other is.holds (subst (λ open_global. HasFieldLayout open_global raw other) same also.holds)

pub fields_once : (Holds : List ℕ → List ℕ → Type 0) (raws mades others : List (List ℕ)) → ((raw made other : List ℕ) → Holds raw made → Holds raw other → made ≡ other) → AllZip Holds raws mades
    → AllZip Holds raws others → mades ≡ others
fields_once Holds [] [] [] once all also = refl
fields_once Holds [] [] (other ∷ others) once all also = absurd also
fields_once Holds [] (made ∷ mades) others once all also = absurd all
fields_once Holds (raw ∷ raws) [] others once all also = absurd all
fields_once Holds (raw ∷ raws) (made ∷ mades) [] once all also = absurd also
fields_once Holds (raw ∷ raws) (made ∷ mades) (other ∷ others) once all also = rw (once raw made other all.0 also.0, fields_once Holds raws mades others once all.1 also.1) refl

-- Blocks are written anew in one way, where each field is.
pub rewrites_once : (IsMade : FieldRelation) (octets : List ℕ) (from to : ℕ) (entities : List Entity) (made other : List ℕ)
    → ((entity : Entity) (raw one two : List ℕ) → IsMade entity raw one → IsMade entity raw two → one ≡ two) → RewritesBlocks IsMade octets from to entities made → RewritesBlocks IsMade octets from to entities other
    → made ≡ other
rewrites_once IsMade octets from to [] made other once is also = is ∙ sym also
rewrites_once IsMade octets from to (entity ∷ entities) made other once is also =
    let fields : is.0 ≡ also.0 = fields_once (IsMade entity) (raws_of octets entity.block) is.0 also.0 (once entity) is.2 also.2 in
    let rest : is.1 ≡ also.1 = rewrites_once IsMade octets entity.block.end to entities is.1 also.1 once is.4 also.4 in
    is.3 ∙ ap (λ made_fields. slice_range octets from entity.at ++ (concat made_fields ++ is.1)) fields ∙ ap (λ more. slice_range octets from entity.at ++ (concat also.0 ++ more)) rest ∙ sym also.3

pub one_layout : (msg made other : List ℕ) (entities others : List Entity) → HasTree msg entities → HasTree msg others → HasLayout msg entities made → HasLayout msg others other → made ≡ other
one_layout msg made other entities others tree also layout second =
    let same : others ≡ entities = one_tree msg others entities also tree in
    rewrites_once (InEntity HasFieldLayout msg) msg 0 (length msg) entities made other (field_once msg) layout (subst (λ all. HasLayout msg all other) same second)
