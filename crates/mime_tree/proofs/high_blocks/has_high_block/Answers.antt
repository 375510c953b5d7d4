use Rattle.std.proofs.Common.{ap, ◌∙◌}
use Rattle.mime_tree.specs.Tree.{has_high_block}
use Rattle.mime_tree.proofs.TreeFields.{tree_fields}
use Rattle.mime_tree.proofs.high_blocks.has_high_block.Goals as goal

pub is_any_high-requires : goal.is_any_high-requires
is_any_high-requires c = rw c.as_slice.ensures (tree_fields c.args.octets.now c.args.tree.now.entities c.requires)

pub returns : goal.returns
returns c = c.is_any_high.ensures ∙ ap (has_high_block c.args.octets.now) c.as_slice.ensures
