use Rattle.relay_choice.proofs.DataLemmas.{run_found, run_last}
use Rattle.relay_choice.proofs.data.run_len.Goals as goal

pub returns-in-Some-clause-run : goal.returns-in-Some-clause-run
returns-in-Some-clause-run c some = run_found c.args.text.now c.in-Some.at c.in-Some.ensures

pub returns-in-None-clause-run : goal.returns-in-None-clause-run
returns-in-None-clause-run c some = run_last c.args.text.now c.in-None.ensures
