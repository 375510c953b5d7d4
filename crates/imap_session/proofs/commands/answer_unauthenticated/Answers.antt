use Rattle.imap_session.specs.Machine.{common_step, not_authenticated, not_authenticated_step}
use Rattle.imap_session.proofs.CommandLemmas.{unauthenticated-other}
use Rattle.imap_session.proofs.StepLemmas.{Takes-same}
use Rattle.imap_session.proofs.commands.answer_unauthenticated.Goals as goal

pub returns-in_default-clause-takes : goal.returns-in_default-clause-takes
returns-in_default-clause-takes g c =
    Takes-same c.args.outside.now c.answer_common.new.outside c.answer_common.result (λ oracles. common_step c.args.tag.now not_authenticated c.args.command.now)
    (λ oracles. not_authenticated_step oracles c.args.tag.now c.args.outside.now.desk.store c.args.command.now)
    (λ oracles are. unauthenticated-other oracles c.args.tag.now c.args.outside.now.desk.store c.args.command.now c.in_default.not-Login) c.answer_common.ensures.takes
