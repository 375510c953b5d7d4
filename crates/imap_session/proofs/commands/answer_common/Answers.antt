use Rattle.std.proofs.Common.{◌∙◌}
use Rattle.std.proofs.lemmas.Result.{err_from_is_err_and}
use Rattle.imap_session.specs.Machine.{common_step}
use Rattle.imap_session.specs.Session.{state_of}
use Rattle.imap_session.proofs.CommandLemmas.{common-left}
use Rattle.imap_session.proofs.StepLemmas.{Takes-fault, Takes-next}
use Rattle.imap_session.proofs.commands.answer_common.Goals as goal

pub returns-in_err-give_common-clause-takes : goal.returns-in_err-give_common-clause-takes
returns-in_err-give_common-clause-takes g c =
    let state = state_of c.args.session in
    let failed = err_from_is_err_and c.from_residual.result c.from_residual.ensures.1 in
    rw (failed.1, failed.2) (Takes-fault c.args.outside.now c.give_common.new.outside c.in_err-give_common.field-0.0 (λ oracles. common_step c.args.tag.now state c.args.command.now)
    (λ oracles are. c.in_err-give_common.ensures.does oracles state))

pub returns-clause-takes : goal.returns-clause-takes
returns-clause-takes g c =
    let state = state_of c.args.session in
    Takes-next c.args.outside.now c.give_common.new.outside c.left_by.result (λ oracles. common_step c.args.tag.now state c.args.command.now)
    (λ oracles are. c.in_ok-give_common.ensures.does oracles state) (λ oracles are. c.left_by.ensures.state ∙ common-left c.args.tag.now state c.args.command.now)
    (c.left_by.ensures.known c.give_common.new.outside.desk.store (rw c.in_ok-give_common.ensures.same c.requires.known))
