use Rattle.std.proofs.Common.{None, Some}
use Rattle.std.proofs.lemmas.Result.{err_from_is_err_and}
use Rattle.mail_wire.specs.declared.outside.Fault.TheVariants as fault
use Rattle.smtp_session.proofs.LineSteps.{Does-line, DoesFirst-no_line}
use Rattle.smtp_session.proofs.session.answer_line.Goals as goal

pub returns-in_err-octets-clause-does : goal.returns-in_err-octets-clause-does
returns-in_err-octets-clause-does g c =
    let failed = err_from_is_err_and c.from_residual.result c.from_residual.ensures.1 in
    rw (failed.1, failed.2) (DoesFirst-no_line c.args.outside.now fault.Memory c.args.state c.args.line.now (λ bad. cc))

pub returns-in-Ok-clause-does : goal.returns-in-Ok-clause-does
returns-in-Ok-clause-does g c =
    Does-line c.args.outside.now c.give-given.new.self None c.args.state c.args.line.now c.as_slice.result.now
    (λ oracles are. rw c.as_slice.ensures (rw c.store.ensures at (c.in_ok-octets.ensures.reply oracles are))) c.in-Ok.ensures.replies

pub returns-in-Err-clause-does : goal.returns-in-Err-clause-does
returns-in-Err-clause-does g c =
    Does-line c.args.outside.now c.give-given.new.self (Some c.in-Err.met) c.args.state c.args.line.now c.as_slice.result.now
    (λ oracles are. rw c.as_slice.ensures (rw c.store.ensures at (c.in_ok-octets.ensures.reply oracles are))) c.in-Err.ensures.replies
