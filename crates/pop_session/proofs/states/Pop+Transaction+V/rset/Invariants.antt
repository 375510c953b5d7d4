use Rattle.std.proofs.Common.{◌≡◌, ◌++◌, take, drop, false}
use Rattle.std.specs.Prelude.{map}
use Rattle.pop_session.specs.Machine.{marked}
use Rattle.pop_session.proofs.states.Pop+Transaction+V.rset.Given as goal

abbrev pub invariant-loop-one : goal.invariant-loop-one
invariant-loop-one g l = l.one-items ≡ map (marked false) (take l.one-index l.initial.one-items) ++ drop l.one-index l.initial.one-items
