use Rattle.smtp_session.proofs.LoopLemmas.{root_block, some_root}
use Rattle.smtp_session.proofs.loops.is_looping.Goals as goal

pub bounds-as_slice-0 : goal.bounds-as_slice-0
bounds-as_slice-0 c = rw c.as_slice.ensures (some_root c.args.octets.now c.args.tree.now.entities c.requires)

pub received_count-requires : goal.received_count-requires
received_count-requires c =
    root_block c.args.octets.now c.args.tree.now.entities c.index-as_slice-0.result c.requires (rw c.as_slice.ensures at c.index-as_slice-0.is)
