-- What is claimed of each field may be weakened.
use Rattle.std.proofs.Common.{◌≡◌, ℕ, ◌+◌, Bool, List, [], ◌∷◌, if◌then◌else◌, refl, ap, ◌∙◌}
use Rattle.std.specs.List.{AllZip}
use Rattle.std.specs.Str.{bytes_eq}
use Rattle.mime_tree.specs.declared.entity.Entity.{Entity}
use Rattle.mime_tree.specs.Rewriting.{FieldRelation, RewritesBlocks, next_entity_place, IsSameEntity, AreSame}
use Rattle.mime_tree.specs.Tree.{raws_of}
use Rattle.surrogate_rope.specs.Layout.{InEntity}
use Rattle.surrogate_rope.specs.Ropes.{changed, changed_by, CountsChanged, WeighsChanged}
use Rattle.surrogate_rope.specs.private.Building.{one}

pub fields_weaker : (IsOne IsOther : List ℕ → List ℕ → Type 0) (raws mades : List (List ℕ)) → ((raw made : List ℕ) → IsOne raw made → IsOther raw made) → AllZip IsOne raws mades → AllZip IsOther raws mades
fields_weaker IsOne IsOther [] [] weaker all = tt
fields_weaker IsOne IsOther [] (made ∷ mades) weaker all = absurd all
fields_weaker IsOne IsOther (raw ∷ raws) [] weaker all = absurd all
fields_weaker IsOne IsOther (raw ∷ raws) (made ∷ mades) weaker all = (weaker raw made all.0, fields_weaker IsOne IsOther raws mades weaker all.1)

-- the one relation between fields gives the other
abbrev pub IsWeaker : FieldRelation → FieldRelation → Type 0
IsWeaker IsOne IsOther = (entity : Entity) (raw made : List ℕ) → IsOne entity raw made → IsOther entity raw made

pub rewrites_weaker : (IsOne IsOther : FieldRelation) (octets : List ℕ) (from to : ℕ) (entities : List Entity) (made : List ℕ) → IsWeaker IsOne IsOther → RewritesBlocks IsOne octets from to entities made
    → RewritesBlocks IsOther octets from to entities made
rewrites_weaker IsOne IsOther octets from to [] made weaker is = is
rewrites_weaker IsOne IsOther octets from to (entity ∷ entities) made weaker is = (
  is.0,
  is.1,
  fields_weaker (IsOne entity) (IsOther entity) (raws_of octets entity.block) is.0 (weaker entity) is.2,
  is.3,
  rewrites_weaker IsOne IsOther octets entity.block.end to entities is.1 weaker is.4,
)

pub weighs_weaker : (weigh : List ℕ → ℕ) (IsOne IsOther : FieldRelation) (msg : List ℕ) (entities : List Entity) (sum : ℕ) → IsWeaker IsOne IsOther → WeighsChanged weigh IsOne msg entities sum
    → WeighsChanged weigh IsOther msg entities sum
weighs_weaker weigh IsOne IsOther msg [] sum weaker is = is
weighs_weaker weigh IsOne IsOther msg (entity ∷ entities) sum weaker is = (
  is.0,
  is.1,
  fields_weaker (IsOne entity) (IsOther entity) (raws_of msg entity.block) is.0 (weaker entity) is.2,
  is.3,
  weighs_weaker weigh IsOne IsOther msg entities is.1 weaker is.4,
)

-- where each weighs one that is how many there are
changed_counts : (raws others : List (List ℕ)) → changed_by one raws others ≡ changed raws others
changed_counts [] others = refl
changed_counts (raw ∷ raws) [] = refl
changed_counts (raw ∷ raws) (other ∷ others) = ap (λ n. (if bytes_eq raw other then 0 else 1) + n) (changed_counts raws others)

pub weighs_counts : (IsMade : FieldRelation) (msg : List ℕ) (entities : List Entity) (count : ℕ) → WeighsChanged one IsMade msg entities count → CountsChanged IsMade msg entities count
weighs_counts IsMade msg [] count is = is
weighs_counts IsMade msg (entity ∷ entities) count is = (is.0, is.1, is.2, is.3 ∙ ap (λ n. n + is.1) (changed_counts (raws_of msg entity.block) is.0), weighs_counts IsMade msg entities is.1 is.4)

entity_weaker : (IsOne IsOther : FieldRelation) (octets : List ℕ) (entity : Entity) (next : ℕ) (made : List ℕ) (other : Entity) (other_next : ℕ) → IsWeaker IsOne IsOther
    → IsSameEntity IsOne octets entity next made other other_next → IsSameEntity IsOther octets entity next made other other_next
entity_weaker IsOne IsOther octets entity next made other other_next weaker is = record {
  parent = is.parent;
  depth = is.depth;
  shape = is.shape;
  fields = fields_weaker (IsOne entity) (IsOther entity) (raws_of octets entity.block) (raws_of made other.block) (weaker entity) is.fields;
  following = is.following;
  content = is.content;
}

pub same_weaker : (IsOne IsOther : FieldRelation) (octets : List ℕ) (to : ℕ) (entities : List Entity) (made : List ℕ) (made_to : ℕ) (others : List Entity) → IsWeaker IsOne IsOther
    → AreSame IsOne octets to entities made made_to others → AreSame IsOther octets to entities made made_to others
same_weaker IsOne IsOther octets to [] made made_to [] weaker are = tt
same_weaker IsOne IsOther octets to [] made made_to (other ∷ others) weaker are = absurd are
same_weaker IsOne IsOther octets to (entity ∷ entities) made made_to [] weaker are = absurd are
same_weaker IsOne IsOther octets to (entity ∷ entities) made made_to (other ∷ others) weaker are = (
  entity_weaker IsOne IsOther octets entity (next_entity_place to entities) made other (next_entity_place made_to others) weaker are.0,
  same_weaker IsOne IsOther octets to entities made made_to others weaker are.1,
)

-- what is claimed in an opened message/global or not
pub in_entity_weaker : (Holds Others : Bool → List ℕ → List ℕ → Type 0) (msg : List ℕ) → ((open_global : Bool) (raw made : List ℕ) → Holds open_global raw made → Others open_global raw made)
    → IsWeaker (InEntity Holds msg) (InEntity Others msg)
in_entity_weaker Holds Others msg weaker = λ entity raw made is. record { open_global = is.open_global; is_open = is.is_open; holds = weaker is.open_global raw made is.holds }
