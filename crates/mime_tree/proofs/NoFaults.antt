-- Octets with a tree have no fault.
use Rattle.std.proofs.Common.{◌≡◌, ℕ, suc, zero, ◌+◌, List, [], ◌∷◌, Bool, false, length, Option, Some, None, inl, inr, refl}
use Rattle.mail_wire.specs.Lines.{lines_of}
use Rattle.utf8_fields.specs.declared.block.FieldFault.{FieldFault}
use Rattle.utf8_fields.specs.declared.block.FieldFault.TheVariants.{NotField as FieldNotField, NotUtf8 as FieldNotUtf8, Memory as FieldMemory}
use Rattle.utf8_fields.proofs.NoFault.{no_fault}
use Rattle.mime_tree.specs.declared.entity.Entity.{Entity}
use Rattle.mime_tree.specs.declared.entity.Shape.{Shape}
use Rattle.mime_tree.specs.declared.entity.TreeFault.{TreeFault}
use Rattle.mime_tree.specs.declared.entity.TreeFault.TheVariants.{Nul, BareCr, BareLf, NotField, NotUtf8, Memory}
use Rattle.mime_tree.specs.Parts.{Part, parts_of}
use Rattle.mime_tree.specs.declared.openings.Opening.{Opening}
use Rattle.mime_tree.specs.declared.openings.Opening.TheVariants.{Nothing, Message, Parts}
use Rattle.mime_tree.proofs.OneOpening.{one_opening}
use Rattle.mime_tree.specs.Tree.{EntityRelation, AreParts, IsDivided, IsOpened, IsEntity, HasTree, raws_of, depth_max}
use Rattle.mime_tree.specs.Faults.{FaultRelation, IsFaultAmong, IsFaultInside, IsFaultOf, IsTreeFault}
use Rattle.mime_tree.proofs.OneTree.{same_head}

-- an entity has no faulty line
unfoldable pub AreApart : EntityRelation → FaultRelation → Type 0
AreApart IsOne IsFault = (parent : Option ℕ) (digest : Bool) (number at : ℕ) (lines : List (List ℕ)) (entities : List Entity) (fault : FieldFault)
    → IsOne parent digest number at lines entities → IsFault digest at lines fault → fault ≡ FieldMemory

apart_parts : (IsOne : EntityRelation) (IsFault : FaultRelation) → AreApart IsOne IsFault → (parent : Option ℕ) (digest : Bool) (number : ℕ) (all : List Part) (entities : List Entity) (fault : FieldFault)
    → AreParts IsOne parent digest number all entities → IsFaultAmong IsOne IsFault digest all fault → fault ≡ FieldMemory
unfolding AreApart
apart_parts IsOne IsFault apart parent digest number [] entities fault are is = absurd is
apart_parts IsOne IsFault apart parent digest number (part ∷ all) entities fault are (inl is) = apart parent digest number part.at part.lines are.0 fault are.3 is
apart_parts IsOne IsFault apart parent digest number (part ∷ all) entities fault are (inr is) = apart_parts IsOne IsFault apart parent digest (number + length are.0) all are.1 fault are.4 is.1

apart_opened : (IsOne : EntityRelation) (IsFault : FaultRelation) → AreApart IsOne IsFault → (opening : Opening) (number body : ℕ) (content : List (List ℕ)) (shape : Shape) (inner : List Entity) (fault : FieldFault)
    → IsOpened IsOne opening number body content shape inner → IsFaultInside IsOne IsFault opening body content fault → fault ≡ FieldMemory
unfolding AreApart
apart_opened IsOne IsFault apart Nothing number body content shape inner fault are is = absurd is
apart_opened IsOne IsFault apart Message number body content shape inner fault are is = apart _ _ _ _ _ inner fault are.1 is
apart_opened IsOne IsFault apart (Parts boundary digest) number body content shape inner fault are is = go (parts_of boundary body content) are is
  where
    go : (all : List Part) → IsDivided IsOne digest number all shape inner → IsFaultAmong IsOne IsFault digest all fault → fault ≡ FieldMemory
    go [] are is = absurd is
    go (part ∷ all) are is = apart_parts IsOne IsFault apart (Some number) digest (number + 1) (part ∷ all) inner fault are.1 is

apart_by : (levels : ℕ) (octets : List ℕ) (parent : Option ℕ) (digest : Bool) (number at : ℕ) (lines : List (List ℕ)) (entities : List Entity) (fault : FieldFault) → AreApart (IsEntity levels octets) (IsFaultOf levels octets)
    → IsEntity (suc levels) octets parent digest number at lines entities → IsFaultOf (suc levels) octets digest at lines fault → fault ≡ FieldMemory
unfolding IsEntity IsFaultOf
apart_by levels octets parent digest number at lines entities fault apart is (inl faulty) = no_fault lines at is.0.entity.block.fields is.0.entity.block.end fault is.0.head.has_block faulty
apart_by levels octets parent digest number at lines entities fault apart is (inr faulty) =
    let same = same_head at lines is.0.entity.block faulty.0.block is.0.entity.body faulty.0.body is.0.content faulty.0.content is.0.head faulty.0.head in
    let opens = rw (← same.block) at faulty.2 in
    let opening : is.1 ≡ faulty.1 = one_opening digest (raws_of octets is.0.entity.block) is.1 faulty.1 is.2 opens in
    let moved = rw (← same.body_same, ← same.content_same, ← opening) at faulty.3 in
    apart_opened (IsEntity levels octets) (IsFaultOf levels octets) apart is.1 number is.0.entity.body is.0.content is.0.entity.shape is.0.inner fault is.3 moved

pub apart_entity : (levels : ℕ) (octets : List ℕ) → AreApart (IsEntity levels octets) (IsFaultOf levels octets)
unfolding AreApart IsEntity IsFaultOf
apart_entity zero octets = λ parent digest number at lines entities fault is faulty. no_fault lines at is.0.entity.block.fields is.0.entity.block.end fault is.0.head.has_block faulty
apart_entity (suc levels) octets = λ parent digest number at lines entities fault is faulty. apart_by levels octets parent digest number at lines entities fault (apart_entity levels octets) is faulty

pub no_tree_fault : (octets : List ℕ) (entities : List Entity) (fault : TreeFault) → HasTree octets entities → IsTreeFault octets fault → fault ≡ Memory
unfolding AreApart
no_tree_fault octets entities (Nul at) tree is = absurd (tree.is_message is.0 (inl (is.1.1)))
no_tree_fault octets entities (BareCr at) tree is = absurd (tree.is_message is.0 (inr (inl (is.1.1))))
no_tree_fault octets entities (BareLf at) tree is = absurd (tree.is_message is.0 (inr (inr (is.1.1))))
no_tree_fault octets entities (NotField at) tree is =
    let memory = apart_entity depth_max octets None false 0 0 (lines_of octets) entities (FieldNotField at) tree.root is.1 in absurd (let clash : FieldNotField at ≡ FieldMemory = memory in cc)
no_tree_fault octets entities (NotUtf8 at) tree is =
    let memory = apart_entity depth_max octets None false 0 0 (lines_of octets) entities (FieldNotUtf8 at) tree.root is.1 in absurd (let clash : FieldNotUtf8 at ≡ FieldMemory = memory in cc)
no_tree_fault octets entities Memory tree is = refl
