use Rattle.block_pool.proofs.FillLemmas.{IsFilling}
use Rattle.block_pool.proofs.chains.fill.Given as goal

abbrev pub invariant-loop-place : goal.invariant-loop-place
invariant-loop-place l = IsFilling l.initial.region l.next l.fn.first l.octets l.region l.block l.place
