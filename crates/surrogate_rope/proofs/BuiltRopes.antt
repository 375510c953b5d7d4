-- A rope whose octets were made block by block.
use Rattle.std.proofs.Common.{◌≡◌, ◌<◌, ◌^◌, ℕ, List, length, map, sym, ◌∙◌}
use Rattle.std.specs.List.{AllByRecursion}
use Rattle.mime_tree.specs.declared.entity.Entity.{Entity}
use Rattle.mime_tree.specs.Outlines.{Outline, outlines_of}
use Rattle.mime_tree.specs.Rewriting.{blocks_of, moved, moved_outline}
use Rattle.mime_tree.specs.Tree.{HasTree}
use Rattle.mime_tree.proofs.KeptTrees.{trees_are_kept}
use Rattle.mime_tree.proofs.Parents.{tree_parents}
use Rattle.mime_tree.proofs.TreeFields.{tree_blocks}
use Rattle.field_downgrade.specs.Stands.{HasFieldLayout}
use Rattle.field_downgrade.specs.Message.{IsServedField}
use Rattle.surrogate_rope.specs.declared.building.Made.{Made}
use Rattle.surrogate_rope.specs.declared.moving.End.{End}
use Rattle.surrogate_rope.specs.private.Building.{one, IsAllMade}
use Rattle.surrogate_rope.specs.private.Moving.{moved_by, HasPlaces}
use Rattle.surrogate_rope.specs.Layout.{InEntity, StandsInAscii}
use Rattle.surrogate_rope.specs.Stored.{HasSmallParent}
use Rattle.surrogate_rope.specs.Ropes.{IsRopeOf, HasNewFields, joined_pieces, new_size}
use Rattle.surrogate_rope.proofs.EndLemmas.{ends_move, outlines_alike, tree_places, moved_parents}
use Rattle.surrogate_rope.proofs.OneLayout.{field_once}
use Rattle.surrogate_rope.proofs.ServedLines.{served_keeps_trees}
use Rattle.surrogate_rope.proofs.Weaker.{IsWeaker, in_entity_weaker, rewrites_weaker, weighs_weaker, weighs_counts, same_weaker}

-- a field that is served has the layout of its rule
pub served_layout : (msg : List ℕ) → IsWeaker (InEntity IsServedField msg) (InEntity HasFieldLayout msg)
served_layout msg = in_entity_weaker IsServedField HasFieldLayout msg (λ open_global raw made is. is.layout)

-- and stands for the other one, in ASCII
pub served_stands : (msg : List ℕ) → IsWeaker (InEntity IsServedField msg) (InEntity StandsInAscii msg)
served_stands msg = in_entity_weaker IsServedField StandsInAscii msg (λ open_global raw made is. (is.stands, is.ascii))

-- a served field of an entity is one
served_once : (msg : List ℕ) (entity : Entity) (raw made other : List ℕ) → InEntity IsServedField msg entity raw made → InEntity IsServedField msg entity raw other → made ≡ other
served_once msg entity raw made other is also = field_once msg entity raw made other (served_layout msg entity raw made is) (served_layout msg entity raw other also)

-- The pieces of all blocks are a rope of the message, with the outlines that were moved.
pub built_rope : (msg : List ℕ) (entities : List Entity) (made : Made) (ends : List End) (outlines : List Outline) → HasTree msg entities → IsAllMade msg entities made ends
    → outlines ≡ map (moved_outline (moved_by 0 0 ends)) (outlines_of entities) → IsRopeOf msg (record { pieces = made.pieces; entities = outlines; rewritten = made.rewritten })
built_rope msg entities made ends outlines tree is moved_are =
    let octets : List ℕ = joined_pieces msg made.pieces in
    let kept = trees_are_kept (InEntity IsServedField msg) msg octets entities (served_keeps_trees msg) tree is.blocks.blocks in
    let alike = outlines_alike (moved_by 0 0 ends) (moved msg entities (blocks_of octets kept.0)) (outlines_of entities)
    (ends_move (InEntity IsServedField msg) msg (served_once msg) entities ends is.to is.made_to (length msg) octets (length octets) kept.0 is.ends_are (tree_blocks msg entities tree) kept.2) in
    record {
      entities = entities;
      tree = tree;
      within = is.within;
      layout = rewrites_weaker (InEntity IsServedField msg) (InEntity HasFieldLayout msg) msg 0 (length msg) entities octets (served_layout msg) is.blocks.blocks;
      others = kept.0;
      made_tree = kept.1;
      outlines = moved_are ∙ alike ∙ sym kept.3;
      count = weighs_counts (InEntity HasFieldLayout msg) msg entities made.rewritten
          (weighs_weaker one (InEntity IsServedField msg) (InEntity HasFieldLayout msg) msg entities made.rewritten (served_layout msg) is.blocks.counted);
      surrogate = record {
        entities = entities;
        others = kept.0;
        tree = tree;
        made_tree = kept.1;
        same = same_weaker (InEntity IsServedField msg) (InEntity StandsInAscii msg) msg (length msg) entities octets (length octets) kept.0 (served_stands msg) kept.2;
      };
    }

-- Its own octets are those of the fields that are made anew.
pub built_new : (msg : List ℕ) (entities : List Entity) (made : Made) (ends : List End) (outlines : List Outline) → IsAllMade msg entities made ends
    → HasNewFields msg entities (record { pieces = made.pieces; entities = outlines; rewritten = made.rewritten })
built_new msg entities made ends outlines is = weighs_weaker length (InEntity IsServedField msg) (InEntity HasFieldLayout msg) msg entities (new_size made.pieces) (served_layout msg) is.blocks.sized

-- The places of the message's entities can be counted, and so can their parents.
pub built_places : (msg : List ℕ) (entities : List Entity) → HasTree msg entities → length msg < 2 ^ 63 → AllByRecursion HasPlaces (outlines_of entities)
built_places msg entities tree small = tree_places msg entities (tree_blocks msg entities tree) small

pub built_parents : (msg : List ℕ) (entities : List Entity) (to : ℕ → ℕ) (outlines : List Outline) → HasTree msg entities → outlines ≡ map (moved_outline to) (outlines_of entities) → length entities < 2 ^ 64
    → AllByRecursion HasSmallParent outlines
built_parents msg entities to outlines tree is few = rw is (moved_parents to entities (length entities) (tree_parents msg entities tree) few)
