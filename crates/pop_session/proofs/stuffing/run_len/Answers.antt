use Rattle.pop_session.proofs.RunLemmas.{run_found, run_last}
use Rattle.pop_session.proofs.stuffing.run_len.Goals as goal

pub returns-in-Some-clause-run : goal.returns-in-Some-clause-run
returns-in-Some-clause-run c = run_found c.args.octets.now c.in-Some.at c.in-Some.ensures

pub returns-in-None-clause-run : goal.returns-in-None-clause-run
returns-in-None-clause-run c = run_last c.args.octets.now c.in-None.ensures
