use Rattle.std.proofs.Common.{◌++◌}
use Rattle.std.proofs.lemmas.Result.{err_from_is_err_and}
use Rattle.mail_wire.specs.declared.outside.Fault.TheVariants as fault
use Rattle.session_core.proofs.StepLemmas.{Answers-stop}
use Rattle.session_core.proofs.rows.answer_unit.Goals as goal

pub returns-in_err-push_slice-clause-answers : goal.returns-in_err-push_slice-clause-answers
returns-in_err-push_slice-clause-answers g c =
    let failed = err_from_is_err_and c.from_residual.result c.from_residual.ensures.1 in
    rw (failed.1, failed.2) (Answers-stop g.R.Rows.grammar g.R.Rows.stands c.args.outside.now c.args.rows (c.args.kept.now ++ c.args.front.now) fault.Memory (λ bad. cc))

pub answer-requires-clause-unit : goal.answer-requires-clause-unit
answer-requires-clause-unit g c = rw (c.as_slice.ensures, c.in_ok-push_slice.ensures.ok) c.requires.unit

pub returns-in_err-next-clause-answers : goal.returns-in_err-next-clause-answers
returns-in_err-next-clause-answers g c =
    let failed = err_from_is_err_and c.from_residual-in_err-next.result c.from_residual-in_err-next.ensures.1 in
    rw (failed.1, failed.2) (rw (c.as_slice.ensures, c.in_ok-push_slice.ensures.ok) at c.in_err-next.ensures.answers)

pub returns-clause-answers : goal.returns-clause-answers
returns-clause-answers g c = rw (c.as_slice.ensures, c.in_ok-push_slice.ensures.ok) at c.in_ok-next.ensures.answers
