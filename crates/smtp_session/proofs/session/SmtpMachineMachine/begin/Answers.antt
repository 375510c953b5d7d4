use Rattle.std.proofs.Common.{ℕ, List, ◌∙◌, ap}
use Rattle.std.proofs.lemmas.Result.{err_from_is_err_and}
use Rattle.smtp_session.specs.Session.{greeting, reply_octets}
use Rattle.smtp_session.proofs.LineSteps.{Begins-fails, Begins-stop}
use Rattle.smtp_session.proofs.session.SmtpMachineMachine.begin.Goals as goal

pub returns-in_err-text-clause-begins : goal.returns-in_err-text-clause-begins
returns-in_err-text-clause-begins g c =
    let failed = err_from_is_err_and c.from_residual.result c.from_residual.ensures.1 in
    rw (failed.1, failed.2) (Begins-stop c.args.outside.now)

pub returns-in_err-give-clause-begins : goal.returns-in_err-give-clause-begins
returns-in_err-give-clause-begins g c =
    let failed = err_from_is_err_and c.from_residual-in_err-give.result c.from_residual-in_err-give.ensures.1 in
    rw (failed.1, failed.2)
    (Begins-fails c.args.outside.now c.give.new.self c.in_err-give.field-0.0 c.as_bytes.result.now
    (c.as_bytes.ensures.value ∙ c.in_ok-text.ensures ∙ ap (λ (name : List ℕ). reply_octets (greeting name)) (rw c.store.ensures at c.name.ensures)) c.in_err-give.ensures.replies)
