use Rattle.relay_choice.proofs.GoingOnLemmas.{stays_stopped, stays_finished}
use Rattle.relay_choice.proofs.laws.an_ended_run_stays.Goals as goal

pub returns-clause-stopped : goal.returns-clause-stopped
returns-clause-stopped c = stays_stopped

pub returns-clause-finished : goal.returns-clause-finished
returns-clause-finished c = stays_finished
