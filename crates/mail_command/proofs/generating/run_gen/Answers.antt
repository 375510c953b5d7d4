use Rattle.std.proofs.Common.{ap, refl}
use Rattle.std.specs.Prelude.{Err}
use Rattle.std.proofs.lemmas.Result.{err_from_is_err_and}
use Rattle.mail_command.specs.Running.{BrokenOff, Told}
use Rattle.mail_command.proofs.GeneratingLemmas.{broken_by}
use Rattle.mail_command.proofs.generating.run_gen.Goals as goal

pub returns-in_err-give_all-clause-runs : goal.returns-in_err-give_all-clause-runs
returns-in_err-give_all-clause-runs g c =
    let p = err_from_is_err_and c.from_residual-in_err-give_all.result c.from_residual-in_err-give_all.ensures.1 in
    rw (p.1, p.2) (BrokenOff c.in_ok-totals.totals c.in_ok-totals.ensures (rw (c.as_slice.ensures, c.in_ok-text.ensures) at c.in_err-give_all.ensures.gives)
    (broken_by c.in_err-give_all.field-0.0 (λ same. c.in_err-give_all.ensures.keeper (ap Err same))))

pub returns-clause-runs : goal.returns-clause-runs
returns-clause-runs g c = Told c.in_ok-totals.totals c.in_ok-totals.ensures (rw (c.as_slice.ensures, c.in_ok-text.ensures) at c.in_ok-give_all.ensures.gives) refl
