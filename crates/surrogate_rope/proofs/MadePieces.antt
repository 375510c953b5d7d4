-- Pieces that are made block by block, and where the blocks end.
use Rattle.std.proofs.Common.{◌≡◌, ℕ, ◌+◌, ◌-◌, ◌^◌, ◌<◌, ◌≤◌, List, [], ◌∷◌, ◌++◌, length, take, get_or, refl, sym, ap, ◌∙◌, subst, arith, length-append}
use Rattle.std.specs.Prelude.{slice_range}
use Rattle.std.specs.List.{AllByRecursion, concat}
use Rattle.mail_wire.proofs.AllLemmas.{all-append}
use Rattle.std.proofs.lemmas.List.{take_more, take_all}
use Rattle.field_downgrade.specs.Message.{IsServedField}
use Rattle.mime_tree.specs.declared.entity.Entity.{Entity}
use Rattle.mime_tree.specs.Rewriting.{RewritesBlocks}
use Rattle.mime_tree.specs.Tree.{HasTree, raws_of}
use Rattle.mime_tree.proofs.InPlace.{slice_none}
use Rattle.surrogate_rope.specs.declared.building.Made.{Made}
use Rattle.surrogate_rope.specs.declared.moving.End.{End}
use Rattle.surrogate_rope.specs.Layout.{InEntity}
use Rattle.surrogate_rope.specs.Ropes.{RopePiece, size_of, joined_pieces, range_size, new_size, WeighsChanged}
use Rattle.surrogate_rope.specs.private.Building.{ReachesPlace, written, with_kept, AddsBlock, IsAllMade}
use Rattle.surrogate_rope.specs.private.Moving.{IsNear, IsEnd, AreEnds}
use Rattle.surrogate_rope.proofs.AddedBlocks.{IsMadeSoFar, none_made, next_block, made_more, all_made}
use Rattle.surrogate_rope.proofs.EndLemmas.{ends_push, ends_rise}
use Rattle.surrogate_rope.proofs.KeptPlaces.{stands_further, written_copies, written_size, is_kept, kept_room, place_near}
use Rattle.mime_tree.proofs.NewEntities.{slice_length}

-- The first entities' blocks are made, up to a place of the message, and end there.
pub record IsMadeUpTo (msg : List ℕ) (entities : List Entity) (i : ℕ) (made : Made) (ends : List End) : Type 0 where
  pub at : ℕ
  pub so_far : IsMadeSoFar msg entities i at (written msg at made)
  pub stands : ReachesPlace msg at made
  pub ends_are : AreEnds (InEntity IsServedField msg) msg 0 0 (take i entities) ends at (length (joined_pieces msg made.pieces ++ slice_range msg made.from at))
  pub near : AllByRecursion IsNear ends

pub nothing_made : (msg : List ℕ) (entities items : List Entity) (pieces : List RopePiece) → HasTree msg entities → items ≡ entities → pieces ≡ []
    → IsMadeUpTo msg items 0 (record { pieces = pieces; from = 0; rewritten = 0 }) []
nothing_made msg entities items pieces tree same none =
    let octets : joined_pieces msg pieces ++ slice_range msg 0 0 ≡ [] = rw (none, slice_none msg 0 0 (omega arith)) refl in
    record {
      at = 0;
      so_far = none_made msg items (record { octets = joined_pieces msg pieces ++ slice_range msg 0 0; rewritten = 0; fresh = new_size pieces }) (rw same tree) octets refl (rw none refl);
      stands = record { from = omega arith; fits = omega arith; within = rw none tt; kept = rw none (omega arith); fresh = rw none (omega arith); few = omega arith; new = rw none (omega arith); ranges = rw none (omega arith) };
      ends_are = (refl, sym (ap length octets));
      near = tt;
    }

-- the next entity's block can be made
pub block_next : (msg : List ℕ) (entities : List Entity) (i : ℕ) (made : Made) (ends : List End) (entity : Entity) → i < length entities → entity ≡ get_or entities i entity → IsMadeUpTo msg entities i made ends
    → ReachesPlace msg entity.at made
block_next msg entities i made ends entity inside is up_to =
    let next = next_block msg entities i up_to.at (written msg up_to.at made) entity inside is up_to.so_far in
    stands_further msg up_to.at entity.at made up_to.stands next.from next.fits

pub block_made : (msg : List ℕ) (entities : List Entity) (i : ℕ) (made new : Made) (ends : List End) (entity : Entity) (place : ℕ) → i < length entities → entity ≡ get_or entities i entity → IsMadeUpTo msg entities i made ends
    → ReachesPlace msg entity.block.end new → AddsBlock (InEntity IsServedField msg entity) (raws_of msg entity.block) (written msg entity.at made) (written msg entity.block.end new)
    → place ≡ size_of new.pieces + (entity.block.end - new.from) → IsMadeUpTo msg entities (i + 1) new (ends ++ record { at = entity.block.end; made = place } ∷ [])
block_made msg entities i made new ends entity place inside is up_to stands adds place_is =
    let at : ℕ = up_to.at in
    let next = next_block msg entities i at (written msg at made) entity inside is up_to.so_far in
    let copies = written_copies msg at entity.at made up_to.stands next.from in
    let first : take (i + 1) entities ≡ take i entities ++ entity ∷ [] = take_more entities i entity inside ∙ ap (λ e. take i entities ++ e ∷ []) (sym is) in
    let gap = slice_length msg at entity.at next.from next.fits in
    let before : length (joined_pieces msg made.pieces ++ slice_range msg made.from entity.at) ≡ length (joined_pieces msg made.pieces ++ slice_range msg made.from at) + length (slice_range msg at entity.at) =
    ap length copies.octets ∙ length-append (joined_pieces msg made.pieces ++ slice_range msg made.from at) (slice_range msg at entity.at) in
    let whole : length (joined_pieces msg new.pieces ++ slice_range msg new.from entity.block.end) ≡ length (joined_pieces msg made.pieces ++ slice_range msg made.from entity.at) + length (concat adds.fields) =
    ap length adds.octets ∙ length-append (joined_pieces msg made.pieces ++ slice_range msg made.from entity.at) (concat adds.fields) in
    let size : place ≡ length (joined_pieces msg new.pieces ++ slice_range msg new.from entity.block.end) = place_is ∙ sym (written_size msg entity.block.end new stands) in
    let end : IsEnd (InEntity IsServedField msg) msg at (length (joined_pieces msg made.pieces ++ slice_range msg made.from at)) entity (record { at = entity.block.end; made = place }) = record {
      fields = adds.fields;
      each = adds.each;
      order = next.from;
      span = next.order;
      at = refl;
      made = omega (arith, size, whole, before, gap);
    } in
    record {
      at = entity.block.end;
      so_far = made_more msg entities i at (written msg at made) (written msg entity.at made) (written msg entity.block.end new) entity inside is up_to.so_far copies adds;
      stands = stands;
      ends_are = rw first (subst (λ n. AreEnds (InEntity IsServedField msg) msg 0 0 (take i entities ++ entity ∷ []) (ends ++ record { at = entity.block.end; made = place } ∷ []) entity.block.end n) size
          (ends_push (InEntity IsServedField msg) msg 0 0 (take i entities) ends at (length (joined_pieces msg made.pieces ++ slice_range msg made.from at)) entity (record { at = entity.block.end; made = place }) up_to.ends_are end));
      near = all-append IsNear ends (record { at = entity.block.end; made = place } ∷ []) up_to.near (rw place_is (place_near msg entity.block.end new stands), tt);
    }

-- what is kept after all blocks has room
pub last_room : (msg : List ℕ) (entities : List Entity) (i : ℕ) (made : Made) (ends : List End) → IsMadeUpTo msg entities i made ends → length msg < 2 ^ 63 → range_size made.pieces + (length msg - made.from) < 2 ^ 63
last_room msg entities i made ends up_to small =
    kept_room msg (length msg) made (stands_further msg up_to.at (length msg) made up_to.stands up_to.stands.fits (omega arith)) small

pub all_pieces : (msg : List ℕ) (entities items : List Entity) (i : ℕ) (made new : Made) (ends : List End) → items ≡ entities → length items ≤ i → IsMadeUpTo msg items i made ends
    → new ≡ record made { pieces = with_kept made (length msg) } → IsAllMade msg entities new ends
all_pieces msg entities items i made new ends same all up_to is =
    let at : ℕ = up_to.at in
    let whole : take i items ≡ entities = take_all i items all ∙ same in
    let fits = up_to.stands.fits in
    let stands = stands_further msg at (length msg) made up_to.stands fits (omega arith) in
    let kept = is_kept msg (length msg) made stands in
    let blocks = all_made msg entities items i at (written msg at made) (written msg (length msg) made) same all up_to.so_far (written_copies msg at (length msg) made up_to.stands fits) in
    let new = stands.new in
    let ranges = stands.ranges in
    let ends_are = subst (λ es. AreEnds (InEntity IsServedField msg) msg 0 0 es ends at (length (joined_pieces msg made.pieces ++ slice_range msg made.from at))) whole up_to.ends_are in
    subst (λ (m : Made). IsAllMade msg entities m ends) (sym is)
    (record {
      blocks = record {
        blocks = subst (RewritesBlocks (InEntity IsServedField msg) msg 0 (length msg) entities) (sym kept.joined) blocks.blocks;
        counted = blocks.counted;
        sized = subst (WeighsChanged length (InEntity IsServedField msg) msg entities) (sym kept.fresh) blocks.sized;
      };
      within = kept.within;
      few = (omega (arith, kept.new), omega (arith, kept.ranges));
      near = up_to.near;
      to = at;
      made_to = length (joined_pieces msg made.pieces ++ slice_range msg made.from at);
      ends_are = ends_are;
      rise = ends_rise (InEntity IsServedField msg) msg 0 0 entities ends at (length (joined_pieces msg made.pieces ++ slice_range msg made.from at)) ends_are;
    })
