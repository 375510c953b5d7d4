use Rattle.std.proofs.Common.{◌++◌}
use Rattle.mail_wire.specs.declared.outside.Fault.TheVariants as fault
use Rattle.smtp_session.proofs.LineSteps.{DoesFirst-no_line}
use Rattle.smtp_session.proofs.session.take_whole.Goals as goal

pub returns-in_default-clause-does : goal.returns-in_default-clause-does
returns-in_default-clause-does g c = DoesFirst-no_line c.args.outside.now fault.Memory c.args.machine.state (c.args.kept.now ++ c.args.front.now) (λ bad. cc)
