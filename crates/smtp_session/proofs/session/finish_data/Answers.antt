use Rattle.std.proofs.lemmas.Result.{err_from_is_err_and}
use Rattle.session_core.specs.Keeps.{fault_of}
use Rattle.session_core.proofs.DoingLemmas.{Does-unchanged}
use Rattle.smtp_session.specs.Session.{line_octets}
use Rattle.smtp_session.specs.private.Steps.{due_of}
use Rattle.smtp_session.proofs.EndLemmas.{Does-answered}
use Rattle.smtp_session.proofs.session.finish_data.Goals as goal

pub returns-in_err-reply-clause-does : goal.returns-in_err-reply-clause-does
returns-in_err-reply-clause-does g c =
    let taken = due_of c.args.outside.now.desk.store c.args.client c.args.accepted in
    let failed = err_from_is_err_and c.from_residual.result c.from_residual.ensures.1 in
    rw (failed.1, failed.2)
    (Does-unchanged line_octets c.args.outside.now c.deliver-delivered.new.outside c.in_err-reply.field-0.0 taken.changes taken.reply (c.in_err-reply.ensures.makes c.args.client))

pub returns-clause-does : goal.returns-clause-does
returns-clause-does g c =
    let taken = due_of c.args.outside.now.desk.store c.args.client c.args.accepted in
    Does-answered c.args.outside.now c.deliver-delivered.new.outside c.reply_to_data.new.outside (fault_of c.reply_to_data.result) taken c.in_ok-reply.reply.now
    (c.in_ok-reply.ensures.reply c.args.client) (c.in_ok-reply.ensures.makes c.args.client) c.reply_to_data.ensures.replies
