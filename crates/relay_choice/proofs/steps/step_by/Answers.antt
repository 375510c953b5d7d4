use Rattle.std.proofs.Common.{arith, rules}
use Rattle.relay_choice.proofs.ReplyTurns.{step_code, step_sign, step_text, step_last, step_next}
use Rattle.relay_choice.proofs.steps.step_by.Goals as goal

pub returns-then-line-lt3-clause-step : goal.returns-then-line-lt3-clause-step
returns-then-line-lt3-clause-step c = λ front.
    rw c.within_if.ensures (step_code c.args.before.now c.args.place c.args.octet c.code_fits.result c.if-line-lt3.true c.code_fits.ensures front)

pub returns-then-line-eq3-clause-step : goal.returns-then-line-eq3-clause-step
returns-then-line-eq3-clause-step c = λ front.
    rw c.within_if-then-line-eq3.ensures (step_sign c.args.before.now c.args.place c.args.octet c.sign_fits.result c.if-line-eq3.true c.sign_fits.ensures front)

pub returns-then-not-ends_line-clause-step : goal.returns-then-not-ends_line-clause-step
returns-then-not-ends_line-clause-step c = λ front.
    rw c.within_if-then-not-ends_line.ensures
    (step_text c.args.before.now c.args.place c.args.octet c.text_fits.result (omega arith) (λ ends. search rules) c.text_fits.ensures front)

pub returns-then-line-ne45-clause-step : goal.returns-then-line-ne45-clause-step
returns-then-line-ne45-clause-step c = λ front.
    step_last c.args.before.now c.args.place c.args.octet (search rules) (λ hyphen. omega (arith, hyphen)) front

pub returns-clause-step : goal.returns-clause-step
returns-clause-step c = λ front.
    step_next c.args.before.now c.args.place c.args.octet (search rules) (omega arith) front
