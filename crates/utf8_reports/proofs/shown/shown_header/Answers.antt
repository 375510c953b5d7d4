use Rattle.utf8_reports.proofs.Roots.{root_block}
use Rattle.utf8_reports.proofs.shown.shown_header.Goals as goal

pub header_of-requires : goal.header_of-requires
header_of-requires c =
    let root = root_block c.args.msg.now c.args.tree.now.entities c.requires in
    (root.entity.block.fields, root.entity.block.end, root.has_block)
