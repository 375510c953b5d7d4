use Rattle.std.proofs.Common.{arith}
use Rattle.imap_words.specs.declared.stop.Stop.TheVariants.{More, Bad}
use Rattle.imap_words.proofs.Going.{passes_on}
use Rattle.imap_words.proofs.HighSteps.{high_more, high_fails, written_stops_so, at_second, two_split, at_third, three_split, at_fourth, four_split}
use Rattle.imap_words.proofs.strings.high_char.Goals as goal

pub returns-in_default : goal.returns-in_default
returns-in_default c = written_stops_so c.args.text.now More (high_more c.args.text.now c.in_default.ensures.cases)

pub returns-then-first-lt194 : goal.returns-then-first-lt194
returns-then-first-lt194 c = written_stops_so c.args.text.now (Bad _) (high_fails c.args.text.now _ _ c.in-Some.ensures.cases.0 (λ l h. omega (arith, l, c.if-first-lt194.true)))

pub returns-then-first-gt244 : goal.returns-then-first-gt244
returns-then-first-gt244 c = written_stops_so c.args.text.now (Bad _) (high_fails c.args.text.now _ _ c.in-Some.ensures.cases.0 (λ l h. omega (arith, h, c.if-first-gt244.true)))

pub returns-in_err-after_second : goal.returns-in_err-after_second
returns-in_err-after_second c =
    passes_on _ _ c.from_residual.result _ c.from_residual.ensures.1
    (at_second c.args.text.now c.in-Some.first.now c.in-Some.others.now c.in-Some.ensures.cases.0 (omega (arith, c.if-first-lt194.false)) (omega (arith, c.if-first-gt244.false)) _ _ c.least_second.ensures c.greatest_second.ensures _ c.in_err-after_second.ensures)

pub returns-then-first-lt224 : goal.returns-then-first-lt224
returns-then-first-lt224 c =
    two_split c.args.text.now c.in-Some.first.now c.in-Some.others.now c.in-Some.ensures.cases.0 (omega (arith, c.if-first-lt194.false)) (omega (arith, c.if-first-gt244.false)) _ _ c.least_second.ensures c.greatest_second.ensures _ _ c.in_ok-after_second.ensures _ _
    c.if-first-lt224.true c.split_at.ensures.front c.split_at.ensures.back

pub returns-in_err-after_third : goal.returns-in_err-after_third
returns-in_err-after_third c =
    passes_on _ _ c.from_residual-in_err-after_third.result _ c.from_residual-in_err-after_third.ensures.1
    (at_third c.args.text.now c.in-Some.first.now c.in-Some.others.now c.in-Some.ensures.cases.0 (omega (arith, c.if-first-lt194.false)) (omega (arith, c.if-first-gt244.false)) _ _ c.least_second.ensures c.greatest_second.ensures _ _ c.in_ok-after_second.ensures _
    (omega (arith, c.if-first-lt224.false)) c.in_err-after_third.ensures)

pub returns-then-first-lt240 : goal.returns-then-first-lt240
returns-then-first-lt240 c =
    three_split c.args.text.now c.in-Some.first.now c.in-Some.others.now c.in-Some.ensures.cases.0 (omega (arith, c.if-first-lt194.false)) (omega (arith, c.if-first-gt244.false)) _ _ c.least_second.ensures c.greatest_second.ensures _ _ c.in_ok-after_second.ensures
    _ _ c.in_ok-after_third.ensures _ _ (omega (arith, c.if-first-lt224.false)) c.if-first-lt240.true c.split_at-then-first-lt240.ensures.front c.split_at-then-first-lt240.ensures.back

pub returns-in_err-after_fourth : goal.returns-in_err-after_fourth
returns-in_err-after_fourth c =
    passes_on _ _ c.from_residual-in_err-after_fourth.result _ c.from_residual-in_err-after_fourth.ensures.1
    (at_fourth c.args.text.now c.in-Some.first.now c.in-Some.others.now c.in-Some.ensures.cases.0 (omega (arith, c.if-first-lt194.false)) (omega (arith, c.if-first-gt244.false)) _ _ c.least_second.ensures c.greatest_second.ensures _ _ c.in_ok-after_second.ensures
    _ _ c.in_ok-after_third.ensures _ (omega (arith, c.if-first-lt240.false)) c.in_err-after_fourth.ensures)

pub returns : goal.returns
returns c =
    four_split c.args.text.now c.in-Some.first.now c.in-Some.others.now c.in-Some.ensures.cases.0 (omega (arith, c.if-first-lt194.false)) (omega (arith, c.if-first-gt244.false)) _ _ c.least_second.ensures c.greatest_second.ensures _ _ c.in_ok-after_second.ensures
    _ _ c.in_ok-after_third.ensures _ _ _ _ (omega (arith, c.if-first-lt240.false)) c.in_ok-after_fourth.ensures c.split_at-2.ensures.front c.split_at-2.ensures.back
