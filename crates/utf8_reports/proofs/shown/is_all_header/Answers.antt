use Rattle.std.proofs.Common.{ap, subst, sym, arith, length}
use Rattle.mime_tree.specs.Tree.{HasTree}
use Rattle.utf8_reports.proofs.Roots.{some_root, whole_block}
use Rattle.utf8_reports.proofs.shown.is_all_header.Goals as goal

pub unreachable-requires : goal.unreachable-requires
unreachable-requires c =
    let some = some_root c.args.octets.now c.args.tree.now.entities c.requires in
    let size = ap length c.as_slice.ensures in
    let empty = c.in-empty.len_below in
    omega arith

pub returns : goal.returns
returns c =
    whole_block c.args.octets.now c.as_slice.result.now c.whole-item.result (subst (HasTree c.args.octets.now) (sym c.as_slice.ensures) c.requires) c.whole-item.is
