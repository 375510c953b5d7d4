use Rattle.std.proofs.Common.{arith, refl}
use Rattle.std.proofs.lemmas.Result.{err_from_is_err_and}
use Rattle.mail_command.specs.Outcome.{IsGivenBy, IsOutcome, Outcome, TooLarge, Refused, Done}
use Rattle.mail_command.proofs.GivingLemmas.{begins_more, begins_refusal, gives_more, gives_refusal}
use Rattle.mail_command.proofs.tasks.give_outcome.Goals as goal

pub returns-then-len-gt-MESSAGE_MAX-clause-begun : goal.returns-then-len-gt-MESSAGE_MAX-clause-begun
returns-then-len-gt-MESSAGE_MAX-clause-begun g c =
    begins_refusal c.args.task c.args.octets c.in_ok-line.line (g.W.Wire.observed c.args.wire.now) (g.W.Wire.observed c.refuse.new.wire) c.refuse.result
    (TooLarge (omega arith) refl c.in_ok-line.ensures) c.refuse.ensures.gives

pub returns-in-Err-clause-gives : goal.returns-in-Err-clause-gives
returns-in-Err-clause-gives g c =
    gives_refusal c.args.task c.args.octets c.in_ok-reason-in-Err.reason (g.W.Wire.observed c.args.wire.now) (g.W.Wire.observed c.refuse-in-Err.new.wire) c.refuse-in-Err.result
    (Refused c.complete.new.octets c.in-Err.fault (omega arith) c.in_ok-complete.ensures.ok (rw c.as_slice.ensures at c.in-Err.ensures.fault) c.in_ok-reason-in-Err.ensures.0 refl
    c.in_ok-reason-in-Err.ensures.1) c.refuse-in-Err.ensures.gives c.refuse-in-Err.ensures.status

pub returns-in-Err-clause-begun : goal.returns-in-Err-clause-begun
returns-in-Err-clause-begun g c =
    begins_refusal c.args.task c.args.octets c.in_ok-reason-in-Err.reason (g.W.Wire.observed c.args.wire.now) (g.W.Wire.observed c.refuse-in-Err.new.wire) c.refuse-in-Err.result
    (Refused c.complete.new.octets c.in-Err.fault (omega arith) c.in_ok-complete.ensures.ok (rw c.as_slice.ensures at c.in-Err.ensures.fault) c.in_ok-reason-in-Err.ensures.0 refl
    c.in_ok-reason-in-Err.ensures.1) c.refuse-in-Err.ensures.gives

pub returns-in_err-give_made-clause-begun : goal.returns-in_err-give_made-clause-begun
returns-in_err-give_made-clause-begun g c =
    let failed = err_from_is_err_and c.from_residual-in_err-give_made.result c.from_residual-in_err-give_made.ensures.1 in
    rw failed.1 (begins_more (IsGivenBy c.args.task c.complete.new.octets) (IsOutcome c.args.task c.args.octets) (g.W.Wire.observed c.args.wire.now) (g.W.Wire.observed c.give_made.new.wire)
    (λ given holds. (0, Done c.complete.new.octets (omega arith) c.in_ok-complete.ensures.ok holds refl)) (rw c.as_slice-2.ensures at c.in_err-give_made.ensures.begun))

pub returns-clause-gives : goal.returns-clause-gives
returns-clause-gives g c =
    gives_more (IsGivenBy c.args.task c.complete.new.octets) (Outcome c.args.task c.args.octets 0) (g.W.Wire.observed c.args.wire.now) (g.W.Wire.observed c.give_made.new.wire)
    (λ given holds. Done c.complete.new.octets (omega arith) c.in_ok-complete.ensures.ok holds refl) (rw c.as_slice-2.ensures at c.in_ok-give_made.ensures.gives)
