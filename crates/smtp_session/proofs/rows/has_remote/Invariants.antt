use Rattle.std.proofs.Common.{◌≡◌, take, false}
use Rattle.std.specs.List.{list_any}
use Rattle.smtp_session.specs.Machine.{is_same_remote}
use Rattle.smtp_session.proofs.rows.has_remote.Given as goal

abbrev pub invariant-loop-other : goal.invariant-loop-other
invariant-loop-other l = list_any (λ other. is_same_remote other l.address) (take l.other-index l.remote) ≡ false
