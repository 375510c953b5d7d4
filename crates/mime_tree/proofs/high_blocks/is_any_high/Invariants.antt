use Rattle.std.proofs.Common.{◌≡◌, take, false}
use Rattle.mime_tree.specs.Tree.{has_high_block}
use Rattle.mime_tree.proofs.high_blocks.is_any_high.Given as goal

abbrev pub invariant-loop-entity : goal.invariant-loop-entity
invariant-loop-entity l = has_high_block l.octets (take l.entity-index l.entities) ≡ false
