use Rattle.std.proofs.Common.{[], None, Some, refl}
use Rattle.std.proofs.lemmas.Result.{err_from_is_err_and}
use Rattle.imap_session.specs.Replies.{part_octets}
use Rattle.imap_session.proofs.PendingLemmas.{Carries-given}
use Rattle.imap_session.proofs.messages.give_pending.Goals as goal

pub returns-in_err-give-clause-carries : goal.returns-in_err-give-clause-carries
returns-in_err-give-clause-carries g c = λ oracles.
    let failed = err_from_is_err_and c.from_residual.result c.from_residual.ensures.1 in
    let replies = rw c.as_slice.ensures at c.in_err-give.ensures.replies in
    rw (failed.1, failed.2) (Carries-given (part_octets oracles) c.args.outside.now c.give.new.self (Some c.in_err-give.field-0.0) c.args.pending.now c.args.pending.now (λ bad. absurd cc) replies)

pub returns-clause-carries : goal.returns-clause-carries
returns-clause-carries g c = λ oracles.
    let replies = rw c.as_slice.ensures at c.in_ok-give.ensures.replies in
    rw c.clear.ensures (Carries-given (part_octets oracles) c.args.outside.now c.give.new.self None c.args.pending.now [] (λ is. refl) replies)
