use Rattle.std.proofs.Common.{arith}
use Rattle.session_tests.proofs.EchoLemmas.{short_line, announced, not_announced}
use Rattle.session_tests.proofs.echo.literal_len.Goals as goal
use Rattle.session_tests.proofs.echo.literal_len.Goals.{else-line-at-eq123-via-then-line-at-eq123+then-digit-ge49+then-digit-le57+else-line-at-eq125, else-line-at-eq123-via-then-line-at-eq123+then-digit-ge49+else-digit-le57, else-line-at-eq123-via-then-line-at-eq123+else-digit-ge49, else-line-at-eq123-via-else-line-at-eq123}

pub returns-then-line-lt5 : goal.returns-then-line-lt5
returns-then-line-lt5 c = short_line c.args.line.now (omega (arith, c.if-line-lt5.true))

pub returns-then-line-at-eq125 : goal.returns-then-line-at-eq125
returns-then-line-at-eq125 c =
    announced c.args.line.now (omega (arith, c.if-line-lt5.false)) (omega (arith, c.if-line-at-eq123.true)) (omega (arith, c.if-digit-ge49.true)) (omega (arith, c.if-digit-le57.true)) (omega (arith, c.if-line-at-eq125.true))

pub returns-else-line-at-eq123 : goal.returns-else-line-at-eq123
returns-else-line-at-eq123 c =
    not_announced c.args.line.now (λ a b d e.
    elim c.else-line-at-eq123.branch [
      | else-line-at-eq123-via-then-line-at-eq123+then-digit-ge49+then-digit-le57+else-line-at-eq125 w ↦ omega (arith, w.if-line-at-eq125.false)
      | else-line-at-eq123-via-then-line-at-eq123+then-digit-ge49+else-digit-le57 w ↦ omega (arith, w.if-digit-le57.false)
      | else-line-at-eq123-via-then-line-at-eq123+else-digit-ge49 w ↦ omega (arith, w.if-digit-ge49.false)
      | else-line-at-eq123-via-else-line-at-eq123 w ↦ omega (arith, w.if-line-at-eq123.false)
    ])
