-- Trees are kept where fields are written anew.
use Rattle.std.proofs.Common.{◌≡◌, ℕ, suc, zero, ◌+◌, ◌≤◌, map, List, [], ◌∷◌, ◌++◌, false, ◌||◌, length, take, None, inl, inr, refl, sym, ap, ◌∙◌, arith, subst}
use Rattle.std.specs.List.{All, AllByRecursion, concat, list_any}
use Rattle.std.proofs.lemmas.List.Elements.{recursion_from_All}
use Rattle.mail_wire.specs.Lines.{lines_of}
use Rattle.mail_wire.specs.Message.{IsSound}
use Rattle.mail_wire.specs.Octets.{is_high}
use Rattle.mail_wire.proofs.LineLemmas.{concat_lines_of}
use Rattle.mail_wire.proofs.AllLemmas.{all-front}
use Rattle.utf8_fields.proofs.LineShapes.{AreLines, AreLines-lines_of}
use Rattle.mime_tree.specs.declared.entity.Entity.{Entity}
use Rattle.mime_tree.specs.declared.entity.Shape.{Shape}
use Rattle.mime_tree.specs.declared.entity.Shape.TheVariants.{Leaf, Multipart, Message}
use Rattle.mime_tree.specs.declared.openings.Opening.{Opening}
use Rattle.mime_tree.specs.declared.openings.Opening.TheVariants.{Nothing, Message as OneMessage, Parts}
use Rattle.mime_tree.specs.Openings.{Opens, IsOtherField}
use Rattle.mime_tree.specs.Parts.{Part, parts_of, size}
use Rattle.mime_tree.specs.Tree.{EntityRelation, IsDivided, IsOpened, IsEntity, HasTree, depth_max, has_high_block}
use Rattle.mime_tree.specs.Outlines.{outlines_of}
use Rattle.mime_tree.specs.Rewriting.{FieldRelation, RewritesBlocks, KeepsTrees, AreSame, next_entity_place, blocks_of, moved, moved_outline}
use Rattle.mime_tree.proofs.Standing.{Stands, IsUnmarked, AreInOrder, AreKept, Keeps}
use Rattle.mime_tree.proofs.InOrder.{in_order, opened_in_order}
use Rattle.mime_tree.proofs.KeptParts.{opened_kept}
use Rattle.mime_tree.proofs.LinesAgain.{lines_again, Stands-slice, Stands-whole, sound_concat, sound_each}
use Rattle.mime_tree.proofs.EmptyEnds.{MayLoseEmpty, entity_less, opened_less}
use Rattle.mime_tree.proofs.FirstInside.{Begins, next_there, entity_begins, nothing_opened, nothing_entity, all_copied, first_inside}
use Rattle.mime_tree.proofs.FrontFields.{front_tree}
use Rattle.mime_tree.proofs.TreeFields.{tree_blocks}
use Rattle.mime_tree.proofs.MovedPlaces.{places_moved, same_of}
use Rattle.mime_tree.proofs.OneTree.{one_tree}
use Rattle.mime_tree.proofs.NewEntities.{cut_entity, IsKeptInside, leaf_entity, open_entity, new_entity}

-- what holds of lines holds of those that their octets have
each_again : (P : List ℕ → Type 0) (lines : List (List ℕ)) (made : List ℕ) → concat lines ≡ made → AreLines lines → AllByRecursion P lines → AllByRecursion P (lines_of made)
each_again P lines made whole are all = elim (lines_again lines are) [
  | inl same ↦ subst (AllByRecursion P) (same ∙ ap lines_of whole) all
  | inr same ↦ subst (λ text. AllByRecursion P (lines_of text)) whole (all-front P (lines_of (concat lines)) ([] ∷ []) (subst (AllByRecursion P) same all))
]

-- A content that isn't opened is copied.
copied : (IsMade : FieldRelation) (octets : List ℕ) (body : ℕ) (content : List (List ℕ)) (inner : List Entity) (new : List ℕ) (new_body : ℕ) (made : List ℕ) → inner ≡ [] → AreLines content → Stands octets body (concat content)
    → RewritesBlocks IsMade octets body (body + size content) inner made → Stands new new_body made → IsKeptInside IsMade octets body content inner new new_body made []
copied IsMade octets body content [] new new_body made none are stands rewrites new_stands =
    let same : concat content ≡ made = sym (Stands-slice octets body (concat content) stands) ∙ sym rewrites in
    record {
      following = all_copied IsMade octets new body (body + size content) [] made new_body [] refl rewrites new_stands tt;
      old_order = omega arith;
      order = omega arith;
      same = tt;
      sound = λ sound. each_again IsSound content made same are sound;
      unmarked = λ boundary unmarked. each_again (IsUnmarked boundary) content made same are unmarked;
      none = λ nothing. sym same ∙ ap concat nothing;
    }
copied IsMade octets body content (entity ∷ inner) new new_body made none are stands rewrites new_stands = cc none

-- an opened content, and what was made of it
record HasOpenedInside (IsMade : FieldRelation) (levels : ℕ) (octets : List ℕ) (opening : Opening) (number body : ℕ) (content : List (List ℕ)) (shape : Shape) (inner : List Entity) (new : List ℕ) (new_body : ℕ) (made : List ℕ)
    : Type 0 where
  others : List Entity
  opened : IsOpened (IsEntity levels new) opening number new_body (lines_of made) shape others
  kept : IsKeptInside IsMade octets body content inner new new_body made others

opened_again : (levels : ℕ) (new : List ℕ) (opening : Opening) (number new_body : ℕ) (lines : List (List ℕ)) (shape : Shape) (others : List Entity) (made : List ℕ) → concat lines ≡ made → AreLines lines
    → IsOpened (IsEntity levels new) opening number new_body lines shape others → IsOpened (IsEntity levels new) opening number new_body (lines_of made) shape others
opened_again levels new opening number new_body lines shape others made whole are is = elim (lines_again lines are) [
  | inl same ↦ subst (λ all. IsOpened (IsEntity levels new) opening number new_body all shape others) (same ∙ ap lines_of whole) is
  | inr same ↦ opened_less levels new opening number new_body (lines_of made) shape others
      (subst (λ all. IsOpened (IsEntity levels new) opening number new_body all shape others) (same ∙ ap (λ text. lines_of text ++ [] ∷ []) whole) is)
]

nothing_made : (IsMade : FieldRelation) (levels : ℕ) (octets : List ℕ) (opening : Opening) (number body : ℕ) (content : List (List ℕ)) (shape : Shape) (inner : List Entity) (made : List ℕ)
    → IsOpened (IsEntity levels octets) opening number body content shape inner → RewritesBlocks IsMade octets body (body + size content) inner made → content ≡ [] → made ≡ []
nothing_made IsMade levels octets opening number body [] shape inner made is rewrites none =
    nothing_opened IsMade octets (IsEntity levels octets) (nothing_entity IsMade levels octets) opening number body shape inner made is
    (subst (λ n. RewritesBlocks IsMade octets body n inner made) (let end : body + size [] ≡ body = omega arith in end) rewrites)
nothing_made IsMade levels octets opening number body (line ∷ content) shape inner made is rewrites none = cc none

opened_inside : (IsMade : FieldRelation) (levels : ℕ) (octets new : List ℕ) → Keeps IsMade octets new (IsEntity levels octets) (IsEntity levels new) → (opening : Opening) (number body : ℕ) (content : List (List ℕ)) (shape : Shape)
    (inner : List Entity) (made : List ℕ) (new_body : ℕ) → IsOpened (IsEntity levels octets) opening number body content shape inner → AreLines content → Stands octets body (concat content)
    → RewritesBlocks IsMade octets body (body + size content) inner made → Stands new new_body made → HasOpenedInside IsMade levels octets opening number body content shape inner new new_body made
opened_inside IsMade levels octets new keeps opening number body content shape inner made new_body is are stands rewrites new_stands =
    let got = opened_kept IsMade levels octets new keeps opening number body content shape inner made new_body is are stands rewrites new_stands in
    let opened = opened_again levels new opening number new_body got.new_lines shape got.others made got.whole got.are got.holds in
    record {
      others = got.others;
      opened = opened;
      kept = record {
        following = first_inside IsMade levels octets new opening number body content shape inner made new_body got.others are stands new_stands rewrites is opened got.same;
        old_order = opened_in_order levels octets opening number body content shape inner is;
        order = subst (λ text. AreInOrder new_body (new_body + length text) got.others) (concat_lines_of made) (opened_in_order levels new opening number new_body (lines_of made) shape got.others opened);
        same = got.same;
        sound = λ sound. each_again IsSound got.new_lines made got.whole got.are (got.sound sound);
        unmarked = λ boundary unmarked. each_again (IsUnmarked boundary) got.new_lines made got.whole got.are (got.unmarked boundary unmarked);
        none = nothing_made IsMade levels octets opening number body content shape inner made is rewrites;
      };
    }

-- nothing is in a leaf
opened_leaf : (IsOne : EntityRelation) (opening : Opening) (number body : ℕ) (content : List (List ℕ)) (shape : Shape) (inner : List Entity) → IsOpened IsOne opening number body content shape inner → shape ≡ Leaf → inner ≡ []
opened_leaf IsOne Nothing number body content shape inner is leaf = is.1
opened_leaf IsOne OneMessage number body content shape inner is leaf = let clash : Message ≡ Leaf = sym is.0 ∙ leaf in cc clash
opened_leaf IsOne (Parts boundary digest) number body content shape inner is leaf = go (parts_of boundary body content) is
  where
    go : (parts : List Part) → IsDivided IsOne digest number parts shape inner → inner ≡ []
    go [] is = is.1
    go (part ∷ parts) is = let clash : Multipart ≡ Leaf = sym is.0 ∙ leaf in cc clash

opened_moved : (levels : ℕ) (octets : List ℕ) (opening : Opening) (number body other : ℕ) (content : List (List ℕ)) (shape same : Shape) (inner : List Entity) → other ≡ body → same ≡ shape
    → IsOpened (IsEntity levels octets) opening number body content shape inner → IsOpened (IsEntity levels octets) opening number other content same inner
opened_moved levels octets opening number body other content shape same inner body_is shape_is is = rw (body_is, shape_is) is

-- an entity whose fields are written anew, and those in it too
pub entity_kept : (IsMade : FieldRelation) (octets new : List ℕ) → KeepsTrees IsMade octets → (levels : ℕ) → Keeps IsMade octets new (IsEntity levels octets) (IsEntity levels new)
unfolding IsEntity
entity_kept IsMade octets new keeps zero = λ parent digest number at lines entities made new_at is are stands rewrites new_stands.
    let order = subst (λ inner. AreInOrder is.0.entity.body (is.0.entity.body + size is.0.content) inner) (sym is.2) (let less : is.0.entity.body ≤ is.0.entity.body + size is.0.content = omega arith in less) in
    let cut = cut_entity IsMade octets new keeps parent _ at lines entities made new_at is.0 order are stands rewrites new_stands in
    let kept = copied IsMade octets is.0.entity.body is.0.content is.0.inner new (new_at + length (concat cut.fields) + size (take 1 is.0.head.has_block.rest)) cut.inside is.2 cut.content_are cut.content_stands cut.rewrites cut.new_stands in
    let built = new_entity IsMade octets new parent _ at lines entities made new_at is.0 cut [] are kept (λ leaf. is.2) in
    record {
      new_lines = built.new_lines;
      others = built.other ∷ [];
      whole = built.whole;
      are = built.are;
      sound = built.sound;
      unmarked = built.unmarked;
      holds = leaf_entity new parent digest number new_at built.new_lines built.other (lines_of cut.inside) built.alone (built.shape_is ∙ is.1);
      same = built.same;
    }
entity_kept IsMade octets new keeps (suc levels) = λ parent digest number at lines entities made new_at is are stands rewrites new_stands.
    let body : ℕ = is.0.entity.body in
    let content : List (List ℕ) = is.0.content in
    let shape : Shape = is.0.entity.shape in
    let order = opened_in_order levels octets is.1 number body content shape is.0.inner is.3 in
    let cut = cut_entity IsMade octets new keeps parent _ at lines entities made new_at is.0 order are stands rewrites new_stands in
    let new_body : ℕ = new_at + length (concat cut.fields) + size (take 1 is.0.head.has_block.rest) in
    let inside = opened_inside IsMade levels octets new (entity_kept IsMade octets new keeps levels) is.1 number body content shape is.0.inner cut.inside new_body is.3 cut.content_are cut.content_stands cut.rewrites cut.new_stands in
    let built = new_entity IsMade octets new parent _ at lines entities made new_at is.0 cut inside.others are inside.kept
    (opened_leaf (IsEntity levels octets) is.1 number body content shape is.0.inner is.3) in
    let opens = keeps.opens is.0.entity cut.fields digest is.1 cut.zip is.2 in
    record {
      new_lines = built.new_lines;
      others = built.other ∷ inside.others;
      whole = built.whole;
      are = built.are;
      sound = built.sound;
      unmarked = built.unmarked;
      holds = open_entity levels new parent digest number new_at built.new_lines built.other (lines_of cut.inside) inside.others is.1 built.alone (subst (λ raws. Opens digest raws is.1) (sym built.raws) opens)
          (opened_moved levels new is.1 number new_body built.other.body (lines_of cut.inside) shape built.other.shape inside.others built.body_is built.shape_is inside.opened);
      same = built.same;
    }

root_again : (levels : ℕ) (new : List ℕ) (lines : List (List ℕ)) (others : List Entity) (made : List ℕ) → concat lines ≡ made → AreLines lines → IsEntity levels new None false 0 0 lines others
    → IsEntity levels new None false 0 0 (lines_of made) others
unfolding MayLoseEmpty
root_again levels new lines others made whole are is = elim (lines_again lines are) [
  | inl same ↦ subst (λ all. IsEntity levels new None false 0 0 all others) (same ∙ ap lines_of whole) is
  | inr same ↦ entity_less levels new None false 0 0 (lines_of made) others (subst (λ all. IsEntity levels new None false 0 0 all others) (same ∙ ap (λ text. lines_of text ++ [] ∷ []) whole) is)
]

-- the entities of a message stand in order in it
pub tree_order : (octets : List ℕ) (entities : List Entity) → HasTree octets entities → AreInOrder 0 (length octets) entities
tree_order octets entities tree =
    subst (λ to. AreInOrder 0 to entities) (let same = ap length (concat_lines_of octets) in let end : 0 + size (lines_of octets) ≡ length octets = omega arith in end)
    (in_order depth_max octets None false 0 0 (lines_of octets) entities tree.root)

-- and the first of them at its begin
tree_begins : (octets : List ℕ) (entities : List Entity) (to : ℕ) → HasTree octets entities → next_entity_place to entities ≡ 0
unfolding Begins
tree_begins octets entities to tree = next_there 0 to entities (entity_begins depth_max octets None false 0 0 (lines_of octets) entities tree.root)

-- A message whose fields are written anew has a tree of the same entities, at their moved places.
pub trees_are_kept : (IsMade : FieldRelation) (octets made : List ℕ) (entities : List Entity) → KeepsTrees IsMade octets → HasTree octets entities → RewritesBlocks IsMade octets 0 (length octets) entities made
    → (others : List Entity) × HasTree made others × AreSame IsMade octets (length octets) entities made (length made) others
    × (outlines_of others ≡ map (moved_outline (moved octets entities (blocks_of made others))) (outlines_of entities))
trees_are_kept IsMade octets made entities keeps tree rewrites =
    let whole = concat_lines_of octets in
    let all : RewritesBlocks IsMade octets 0 (0 + size (lines_of octets)) entities made =
    subst (λ n. RewritesBlocks IsMade octets 0 n entities made) (let end : length octets ≡ 0 + size (lines_of octets) = (let same = ap length whole in omega arith) in end) rewrites in
    let stands : Stands octets 0 (concat (lines_of octets)) = subst (Stands octets 0) (sym whole) (Stands-whole octets) in
    let got = entity_kept IsMade octets made keeps depth_max None false 0 0 (lines_of octets) entities made 0 tree.root (AreLines-lines_of octets) stands all (Stands-whole made) in
    let sound = got.sound (sound_each (lines_of octets) (AreLines-lines_of octets) (subst IsSound (sym whole) tree.is_message)) in
    let kept : AreKept IsMade octets (length octets) entities made (length made) got.others =
    subst (λ n. AreKept IsMade octets (length octets) entities made n got.others) (let end : 0 + length made ≡ length made = omega arith in end)
    (subst (λ n. AreKept IsMade octets n entities made (0 + length made) got.others) (let end : 0 + size (lines_of octets) ≡ length octets = (let same = ap length whole in omega arith) in end) got.same) in
    let made_tree : HasTree made got.others = record {
      is_message = subst IsSound got.whole (sound_concat got.new_lines sound);
      root = root_again depth_max made got.new_lines got.others made got.whole got.are got.holds;
    } in (
      got.others,
      made_tree,
      same_of IsMade octets (length octets) entities made (length made) got.others kept,
      places_moved IsMade octets keeps entities made got.others (tree_order octets entities tree) (tree_order made got.others made_tree) (tree_blocks octets entities tree) (tree_blocks made got.others made_tree)
          (tree_begins made got.others (length made) made_tree ∙ sym (tree_begins octets entities (length octets) tree)) kept,
    )

-- a message after fields that say nothing of how it is opened
pub fields_before : (octets : List ℕ) (fields : List (List ℕ)) (entities : List Entity) → HasTree octets entities → All IsOtherField fields → (others : List Entity) × HasTree (concat fields ++ octets) others
fields_before octets fields entities tree others =
    let found = front_tree octets fields entities tree (recursion_from_All IsOtherField fields others) in
    (found.0, found.1)

-- Its header blocks are high exactly where they were, or where one of these fields is.
pub high_after : (octets : List ℕ) (fields : List (List ℕ)) (entities others : List Entity) → HasTree octets entities → All IsOtherField fields → HasTree (concat fields ++ octets) others
    → has_high_block (concat fields ++ octets) others ≡ (list_any is_high fields || has_high_block octets entities)
high_after octets fields entities others tree all made =
    let found = front_tree octets fields entities tree (recursion_from_All IsOtherField fields all) in
    ap (has_high_block (concat fields ++ octets)) (one_tree (concat fields ++ octets) others found.0 made found.1) ∙ found.3
