use Rattle.std.proofs.Common.{◌≡◌, ◌++◌, drop}
use Rattle.pop_session.specs.Machine.{deleted_ids}
use Rattle.pop_session.proofs.states.deleted_ids.Given as goal

abbrev pub invariant-loop-one : goal.invariant-loop-one
invariant-loop-one l = l.ids.items ++ deleted_ids (drop l.one-index l.maildrop) ≡ deleted_ids l.maildrop
