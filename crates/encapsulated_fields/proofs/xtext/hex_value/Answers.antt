use Rattle.std.proofs.Common.{arith}
use Rattle.encapsulated_fields.proofs.XtextLemmas.{number_fits, digit_fits}
use Rattle.encapsulated_fields.proofs.xtext.hex_value.Goals as goal

pub overflow_mul-number : goal.overflow_mul-number
overflow_mul-number c =
    let fits = number_fits _ _ _ c.loop-digit.invariant.small c.loop-digit-test.true c.requires.most in
    omega arith

pub overflow_add-number : goal.overflow_add-number
overflow_add-number c =
    let fits = number_fits _ _ _ c.loop-digit.invariant.small c.loop-digit-test.true c.requires.most in
    let digit = digit_fits c.args.digits.now c.loop-digit.digit-index c.requires.hex c.loop-digit-test.true in
    omega arith
