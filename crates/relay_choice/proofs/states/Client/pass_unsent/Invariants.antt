use Rattle.std.proofs.Common.{◌≡◌, ◌-◌, length}
use Rattle.relay_choice.proofs.PassingLemmas.{Passes}
use Rattle.relay_choice.proofs.states.Client.pass_unsent.Given as goal

abbrev pub invariant-loop-at : goal.invariant-loop-at
invariant-loop-at l = (l.mail_objects ≡ l.self.mail_objects) × Passes l.self l.from l.initial.acts l.acts l.at

abbrev pub decreases-loop-at : goal.decreases-loop-at
decreases-loop-at l = length l.mail_objects - l.at
