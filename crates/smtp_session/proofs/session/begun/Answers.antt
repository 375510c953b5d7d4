use Rattle.std.proofs.Common.{◌∙◌, sym}
use Rattle.smtp_session.proofs.LineSteps.{first_of}
use Rattle.smtp_session.proofs.session.begun.Goals as goal

pub returns-clause-first : goal.returns-clause-first
returns-clause-first c desk same known = first_of (record { state = c.args.state; reader = c.new.result }) desk c.new.ensures.read (c.new.ensures.limit ∙ sym same) known
