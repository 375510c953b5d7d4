-- A message has one tree at most, and none with a faulty line.
use Rattle.std.proofs.Common.{◌≡◌, ℕ, suc, zero, ◌+◌, ◌-◌, List, [], ◌∷◌, Bool, length, Option, Some, None, refl, sym, ◌∙◌}
use Rattle.mail_wire.specs.Lines.{lines_of}
use Rattle.utf8_fields.specs.declared.block.Block.{Block}
use Rattle.utf8_fields.proofs.OneBlock.{same_block, same_rest}
use Rattle.mime_tree.specs.declared.entity.Entity.{Entity}
use Rattle.mime_tree.specs.declared.entity.Shape.{Shape}
use Rattle.mime_tree.specs.Parts.{Part, parts_of}
use Rattle.mime_tree.specs.declared.openings.Opening.{Opening}
use Rattle.mime_tree.specs.declared.openings.Opening.TheVariants.{Nothing, Message, Parts}
use Rattle.mime_tree.proofs.OneOpening.{one_opening}
use Rattle.mime_tree.specs.Tree.{HasHead, IsWithInner, EntityRelation, AreParts, IsDivided, IsOpened, IsEntity, HasTree, raws_of, depth_max}

-- two heads of the same lines are one
pub record IsSameHead (a b : Block) (body other : ℕ) (content others : List (List ℕ)) : Type 0 where
  pub block : a ≡ b
  pub body_same : body ≡ other
  pub content_same : content ≡ others

pub same_head : (at : ℕ) (lines : List (List ℕ)) (a b : Block) (body other : ℕ) (content others : List (List ℕ)) → HasHead at lines a body content → HasHead at lines b other others
    → IsSameHead a b body other content others
same_head at lines a b body other content others x y =
    let same = same_block lines at a.fields b.fields a.end b.end x.has_block y.has_block in
    let rest = same_rest lines at a.fields b.fields a.end b.end x.has_block y.has_block in
    record {
      block = rw (same.0, same.1) refl;
      body_same = x.body_is ∙ rw (same.1, rest) (sym y.body_is);
      content_same = x.content_is ∙ rw rest (sym y.content_is);
    }

-- an entity has one list of entities at most
unfoldable pub IsOnce : EntityRelation → Type 0
IsOnce IsOne = (parent : Option ℕ) (digest : Bool) (number at : ℕ) (lines : List (List ℕ)) (entities others : List Entity)
    → IsOne parent digest number at lines entities → IsOne parent digest number at lines others → entities ≡ others

same_parts : (IsOne : EntityRelation) → IsOnce IsOne → (parent : Option ℕ) (digest : Bool) (number : ℕ) (all : List Part) (entities others : List Entity)
    → AreParts IsOne parent digest number all entities → AreParts IsOne parent digest number all others → entities ≡ others
unfolding IsOnce
same_parts IsOne once parent digest number [] entities others x y = x ∙ sym y
same_parts IsOne once parent digest number (part ∷ all) entities others x y =
    let first : x.0 ≡ y.0 = once parent digest number part.at part.lines x.0 y.0 x.3 y.3 in
    let later = rw (← first) at y.4 in
    let rest : x.1 ≡ y.1 = same_parts IsOne once parent digest (number + length x.0) all x.1 y.1 x.4 later in
    x.2 ∙ rw (first, rest) (sym y.2)

same_opened : (IsOne : EntityRelation) → IsOnce IsOne → (opening : Opening) (number body : ℕ) (content : List (List ℕ)) (shape other : Shape) (inner others : List Entity)
    → IsOpened IsOne opening number body content shape inner → IsOpened IsOne opening number body content other others → (shape ≡ other) × (inner ≡ others)
unfolding IsOnce
same_opened IsOne once Nothing number body content shape other inner others x y = (x.0 ∙ sym y.0, x.1 ∙ sym y.1)
same_opened IsOne once Message number body content shape other inner others x y = (x.0 ∙ sym y.0, once _ _ _ _ _ inner others x.1 y.1)
same_opened IsOne once (Parts boundary digest) number body content shape other inner others x y = go (parts_of boundary body content) x y
  where
    go : (all : List Part) → IsDivided IsOne digest number all shape inner → IsDivided IsOne digest number all other others → (shape ≡ other) × (inner ≡ others)
    go [] x y = (x.0 ∙ sym y.0, x.1 ∙ sym y.1)
    go (part ∷ all) x y = (x.0 ∙ sym y.0, same_parts IsOne once (Some number) digest (number + 1) (part ∷ all) inner others x.1 y.1)

same_with : (parent : Option ℕ) (depth at : ℕ) (lines : List (List ℕ)) (entities others : List Entity) (x : IsWithInner parent depth at lines entities) (y : IsWithInner parent depth at lines others)
    → IsSameHead x.entity.block y.entity.block x.entity.body y.entity.body x.content y.content → x.entity.shape ≡ y.entity.shape → x.inner ≡ y.inner → entities ≡ others
same_with parent depth at lines entities others x y same shape inner =
    let parents : x.entity.parent ≡ y.entity.parent = x.parent_is ∙ sym y.parent_is in
    let depths : x.entity.depth ≡ y.entity.depth = x.depth_is ∙ sym y.depth_is in
    let ats : x.entity.at ≡ y.entity.at = x.at_is ∙ sym y.at_is in
    let ends : x.entity.end ≡ y.entity.end = x.end_is ∙ sym y.end_is in
    let one : x.entity ≡ y.entity = rw (parents, depths, ats, ends, shape, same.body_same, same.block) refl in
    x.entities_are ∙ rw (one, inner) (sym y.entities_are)

pub same_entity : (levels : ℕ) (octets : List ℕ) → IsOnce (IsEntity levels octets)
unfolding IsOnce IsEntity
same_entity zero octets = λ parent digest number at lines entities others x y.
    same_with parent (depth_max + 1) at lines entities others x.0 y.0 (same_head at lines _ _ _ _ _ _ x.0.head y.0.head) (x.1 ∙ sym y.1) (x.2 ∙ sym y.2)
same_entity (suc levels) octets = λ parent digest number at lines entities others x y.
    let same = same_head at lines x.0.entity.block y.0.entity.block x.0.entity.body y.0.entity.body x.0.content y.0.content x.0.head y.0.head in
    let opens = rw (← same.block) at y.2 in
    let opening : x.1 ≡ y.1 = one_opening digest (raws_of octets x.0.entity.block) x.1 y.1 x.2 opens in
    let moved = rw (← same.body_same, ← same.content_same, ← opening) at y.3 in
    let one = same_opened (IsEntity levels octets) (same_entity levels octets) x.1 number x.0.entity.body x.0.content x.0.entity.shape y.0.entity.shape
    x.0.inner y.0.inner x.3 moved in
    same_with parent (depth_max - levels) at lines entities others x.0 y.0 same one.0 one.1

pub one_tree : (octets : List ℕ) (entities others : List Entity) → HasTree octets entities → HasTree octets others → entities ≡ others
unfolding IsOnce
one_tree octets entities others x y = same_entity depth_max octets None _ 0 0 (lines_of octets) entities others x.root y.root
