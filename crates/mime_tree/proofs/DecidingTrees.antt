-- Whether octets have a tree of entities is decided.
use Rattle.std.proofs.Common.{◌≡◌, ◌⊎◌, inl, inr, ℕ, suc, zero, ◌+◌, ◌-◌, List, [], ◌∷◌, ◌++◌, Bool, false, length, Option, Some, None, refl, subst}
use Rattle.mail_wire.specs.Lines.{lines_of}
use Rattle.utf8_fields.proofs.DecidingBlocks.{Decided, decide_sound}
use Rattle.mime_tree.specs.declared.entity.Entity.{Entity}
use Rattle.mime_tree.specs.declared.entity.Shape.{Shape}
use Rattle.mime_tree.specs.declared.entity.Shape.TheVariants.{Leaf, Multipart, Message}
use Rattle.mime_tree.specs.declared.openings.Opening.{Opening}
use Rattle.mime_tree.specs.declared.openings.Opening.TheVariants.{Nothing, Message as OneMessage, Parts}
use Rattle.mime_tree.specs.Openings.{Opens}
use Rattle.mime_tree.specs.Parts.{Part, parts_of, size}
use Rattle.mime_tree.specs.Tree.{IsWithInner, EntityRelation, AreParts, IsDivided, IsOpened, IsEntity, HasTree, raws_of, depth_max}
use Rattle.mime_tree.proofs.DecidingHeads.{decide_head}
use Rattle.mime_tree.proofs.DecidingOpenings.{some_opening, raws_within}
use Rattle.mime_tree.proofs.FieldsWithin.{head_within}
use Rattle.mime_tree.proofs.LinesWithin.{AreLinesAt, ArePartsAt, all_lines, parts_of_at}
use Rattle.mime_tree.proofs.OneOpening.{one_opening}
use Rattle.mime_tree.proofs.OneTree.{IsOnce, same_head, same_entity}
use Rattle.mime_tree.specs.Faults.{HasSoundHead}

-- there is a list of entities of which this holds, or there is none
abbrev Found : (List Entity → Type 0) → Type 0
Found Holds = ((entities : List Entity) × Holds entities) ⊎ ((entities : List Entity) → ¬ Holds entities)

-- of lines that stand in the octets it is decided whether they are an entity
unfoldable Decides : List ℕ → EntityRelation → Type 0
Decides octets IsOne = (parent : Option ℕ) (digest : Bool) (number at : ℕ) (lines : List (List ℕ)) → AreLinesAt octets at lines → Found (IsOne parent digest number at lines)

-- the entities of parts
decide_parts : (octets : List ℕ) (IsOne : EntityRelation) → Decides octets IsOne → IsOnce IsOne → (parent : Option ℕ) (digest : Bool) (number : ℕ) (all : List Part) → ArePartsAt octets all
    → Found (AreParts IsOne parent digest number all)
unfolding Decides IsOnce
decide_parts octets IsOne decides once parent digest number [] at = inl ([], refl)
decide_parts octets IsOne decides once parent digest number (part ∷ all) at = elim (decides parent digest number part.at part.lines at.0) [
  | inr none ↦ inr (λ entities are. none are.0 are.3)
  | inl first ↦ elim (decide_parts octets IsOne decides once parent digest (number + length first.0) all at.1) [
    | inl rest ↦ inl (first.0 ++ rest.0, (first.0, rest.0, refl, first.1, rest.1))
    | inr none ↦ inr (λ entities are.
        let same : are.0 ≡ first.0 = once parent digest number part.at part.lines are.0 first.0 are.3 first.1 in
        none are.1 (subst (λ entities. AreParts IsOne parent digest (number + length entities) all are.1) same are.4))
  ]
]

-- what is in an opened content
record SomeInside (IsOne : EntityRelation) (opening : Opening) (number body : ℕ) (content : List (List ℕ)) : Type 0 where
  shape : Shape
  inner : List Entity
  is : IsOpened IsOne opening number body content shape inner

-- what is in a divided one
record SomeDivided (IsOne : EntityRelation) (digest : Bool) (number : ℕ) (all : List Part) : Type 0 where
  shape : Shape
  inner : List Entity
  is : IsDivided IsOne digest number all shape inner

decide_divided : (octets : List ℕ) (IsOne : EntityRelation) → Decides octets IsOne → IsOnce IsOne → (digest : Bool) (number : ℕ) (all : List Part) → ArePartsAt octets all
    → Decided (SomeDivided IsOne digest number all)
decide_divided octets IsOne decides once digest number [] at = inl (record { shape = Leaf; inner = []; is = (refl, refl) })
decide_divided octets IsOne decides once digest number (part ∷ all) at = elim (decide_parts octets IsOne decides once (Some number) digest (number + 1) (part ∷ all) at) [
  | inl found ↦ inl (record { shape = Multipart; inner = found.0; is = (refl, found.1) })
  | inr none ↦ inr (λ some. none some.inner some.is.1)
]

decide_opened : (octets : List ℕ) (IsOne : EntityRelation) → Decides octets IsOne → IsOnce IsOne → (opening : Opening) (number body : ℕ) (content : List (List ℕ)) → AreLinesAt octets body content
    → Decided (SomeInside IsOne opening number body content)
unfolding Decides
decide_opened octets IsOne decides once Nothing number body content at = inl (record { shape = Leaf; inner = []; is = (refl, refl) })
decide_opened octets IsOne decides once OneMessage number body content at = elim (decides (Some number) false (number + 1) body content at) [
  | inl found ↦ inl (record { shape = Message; inner = found.0; is = (refl, found.1) })
  | inr none ↦ inr (λ some. none some.inner some.is.1)
]
decide_opened octets IsOne decides once (Parts boundary digest) number body content at =
    elim (decide_divided octets IsOne decides once digest number (parts_of boundary body content) (parts_of_at octets boundary body content at)) [
      | inl some ↦ inl (record { shape = some.shape; inner = some.inner; is = some.is })
      | inr none ↦ inr (λ some. none (record { shape = some.shape; inner = some.inner; is = some.is }))
    ]

-- the entity with this head, and those in it
with_inner : (parent : Option ℕ) (depth at : ℕ) (lines : List (List ℕ)) (some : HasSoundHead at lines) (shape : Shape) (inner : List Entity)
    → (entities : List Entity) × IsWithInner parent depth at lines entities
with_inner parent depth at lines some shape inner =
    let entity : Entity = record { parent = parent; depth = depth; at = at; body = some.body; end = at + size lines; shape = shape; block = some.block } in (
      entity ∷ inner,
      record { entity = entity; content = some.content; inner = inner; entities_are = refl; head = some.head; parent_is = refl; depth_is = refl; at_is = refl; end_is = refl },
    )

head_of : (parent : Option ℕ) (depth at : ℕ) (lines : List (List ℕ)) (entities : List Entity) → IsWithInner parent depth at lines entities → HasSoundHead at lines
head_of parent depth at lines entities is = record { block = is.entity.block; body = is.entity.body; content = is.content; head = is.head }

-- the entities of an entity that may be opened
decide_open : (levels : ℕ) (octets : List ℕ) → Decides octets (IsEntity levels octets) → Decides octets (IsEntity (suc levels) octets)
unfolding Decides IsEntity with_inner
decide_open levels octets decides = λ parent digest number at lines stand. elim (decide_head at lines) [
  | inr none ↦ inr (λ entities is. none (head_of parent (depth_max - levels) at lines entities is.0))
  | inl some ↦
      let within = head_within octets at lines some.block some.body some.content stand some.head in
      let opening = some_opening digest (raws_of octets some.block) (raws_within octets some.block.fields within.fields) in
      elim (decide_opened octets (IsEntity levels octets) decides (same_entity levels octets) opening.0 number some.body some.content within.content_lines) [
        | inl inside ↦
            let made = with_inner parent (depth_max - levels) at lines some inside.shape inside.inner in
            inl (made.0, (made.1, opening.0, opening.1, inside.is))
        | inr none ↦ inr (λ entities is.
            let same = same_head at lines is.0.entity.block some.block is.0.entity.body some.body is.0.content some.content is.0.head some.head in
            let opens : Opens digest (raws_of octets some.block) is.1 = subst (λ block. Opens digest (raws_of octets block) is.1) same.block is.2 in
            let opened : is.1 ≡ opening.0 = one_opening digest (raws_of octets some.block) is.1 opening.0 opens opening.1 in
            none (record { shape = is.0.entity.shape; inner = is.0.inner; is = rw (same.body_same, same.content_same, opened) at is.3 }))
      ]
]

-- the entities of one entity, by its levels
decide_entity : (levels : ℕ) (octets : List ℕ) → Decides octets (IsEntity levels octets)
unfolding Decides IsEntity with_inner
decide_entity zero octets = λ parent digest number at lines stand. elim (decide_head at lines) [
  | inr none ↦ inr (λ entities is. none (head_of parent (depth_max + 1) at lines entities is.0))
  | inl some ↦ let made = with_inner parent (depth_max + 1) at lines some Leaf [] in inl (made.0, (made.1, refl, refl))
]
decide_entity (suc levels) octets = decide_open levels octets (decide_entity levels octets)

-- octets have a tree of entities, or none
pub decide_tree : (octets : List ℕ) → ((entities : List Entity) × HasTree octets entities) ⊎ ((entities : List Entity) → ¬ HasTree octets entities)
unfolding Decides
decide_tree octets = elim (decide_sound octets) [
  | inr fails ↦ inr (λ entities tree. fails tree.is_message)
  | inl sound ↦ elim (decide_entity depth_max octets None false 0 0 (lines_of octets) (all_lines octets)) [
    | inl found ↦ inl (found.0, record { is_message = sound; root = found.1 })
    | inr none ↦ inr (λ entities tree. none entities tree.root)
  ]
]
