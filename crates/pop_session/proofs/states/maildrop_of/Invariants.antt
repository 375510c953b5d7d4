use Rattle.std.proofs.Common.{◌≡◌, take}
use Rattle.std.specs.Prelude.{map}
use Rattle.pop_session.specs.Machine.{unmarked}
use Rattle.pop_session.proofs.states.maildrop_of.Given as goal

abbrev pub invariant-loop-listed : goal.invariant-loop-listed
invariant-loop-listed l = l.maildrop.items ≡ map unmarked (take l.listed-index l.listing)
