use Rattle.std.proofs.lemmas.Result.{err_from_is_err_and}
use Rattle.mail_wire.proofs.Moving.{Gives-nil}
use Rattle.mail_command.proofs.RunLemmas.{answers_by, breaks_off_by, fine_by, takes_partly}
use Rattle.mail_command.proofs.tasks.run_task.Goals as goal

pub returns-in_err-taken-clause-broken_off : goal.returns-in_err-taken-clause-broken_off
returns-in_err-taken-clause-broken_off g c =
    let p = err_from_is_err_and c.from_residual.result c.from_residual.ensures.1 in
    let some = c.in_err-taken.ensures.some in
    rw p.1 (takes_partly c.args.task (g.W.Wire.observed c.args.wire.now) (g.W.Wire.observed c.take_up_to.new.wire) (g.W.Wire.observed c.take_up_to.new.wire) some.octets some.takes some.few
    (Gives-nil (g.W.Wire.observed c.take_up_to.new.wire)))

pub returns-clause-answers : goal.returns-clause-answers
returns-clause-answers g c =
    answers_by c.args.task (g.W.Wire.observed c.args.wire.now) (g.W.Wire.observed c.take_up_to.new.wire) (g.W.Wire.observed c.give_outcome.new.wire) c.in_ok-taken.taken c.give_outcome.result
    c.in_ok-taken.ensures.taken c.give_outcome.ensures.gives

pub returns-clause-fine : goal.returns-clause-fine
returns-clause-fine g c =
    fine_by c.args.task (g.W.Wire.observed c.take_up_to.new.wire) (g.W.Wire.observed c.give_outcome.new.wire) c.in_ok-taken.taken c.give_outcome.result c.give_outcome.ensures.gives

pub returns-clause-broken_off : goal.returns-clause-broken_off
returns-clause-broken_off g c =
    breaks_off_by c.args.task (g.W.Wire.observed c.args.wire.now) (g.W.Wire.observed c.take_up_to.new.wire) (g.W.Wire.observed c.give_outcome.new.wire) c.in_ok-taken.taken c.give_outcome.result
    c.in_ok-taken.ensures.taken c.give_outcome.ensures.begun
