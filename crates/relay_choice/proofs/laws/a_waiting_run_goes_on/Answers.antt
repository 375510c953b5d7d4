use Rattle.relay_choice.proofs.GoingOnLemmas.{goes_on_waiting, relay_grows}
use Rattle.relay_choice.proofs.laws.a_waiting_run_goes_on.Goals as goal

pub returns-clause-waits : goal.returns-clause-waits
returns-clause-waits c = goes_on_waiting

pub returns-clause-grows : goal.returns-clause-grows
returns-clause-grows c = relay_grows
