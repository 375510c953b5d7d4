use Rattle.mail_command.proofs.RunLemmas.{runs_task}
use Rattle.mail_command.proofs.standalone.run_standalone.Goals as goal

pub returns-in-Message-clause-runs : goal.returns-in-Message-clause-runs
returns-in-Message-clause-runs g c =
    rw c.in-Message.is (runs_task c.in-Message.task (g.W.Wire.observed c.args.wire.now) (g.W.Wire.observed c.run_task.new.wire) c.run_task.result c.run_task.ensures.answers c.run_task.ensures.fine
    c.run_task.ensures.broken_off c.run_task.ensures.keeper)

pub returns-in-Gen-clause-runs : goal.returns-in-Gen-clause-runs
returns-in-Gen-clause-runs g c = rw c.in-Gen.is c.run_gen.ensures.runs
