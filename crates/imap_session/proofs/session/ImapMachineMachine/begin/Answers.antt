use Rattle.std.proofs.lemmas.Result.{err_from_is_err_and}
use Rattle.imap_session.proofs.SessionLemmas.{Begins-fails}
use Rattle.imap_session.proofs.session.ImapMachineMachine.begin.Goals as goal

pub returns-in_err-give-clause-begins : goal.returns-in_err-give-clause-begins
returns-in_err-give-clause-begins g c =
    let failed = err_from_is_err_and c.from_residual.result c.from_residual.ensures.1 in
    rw (failed.1, failed.2) (Begins-fails c.args.outside.now c.give.new.self c.in_err-give.field-0.0 c.in_err-give.ensures.replies)
