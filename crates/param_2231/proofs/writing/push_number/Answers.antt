use Rattle.std.proofs.Common.{arith, sym, ◌∙◌}
use Rattle.param_2231.proofs.NumbersAgain.{number_digits_decimal}
use Rattle.param_2231.proofs.writing.push_number.Goals as goal

pub returns : goal.returns
returns c =
    let digits = c.as_bytes.ensures.value ∙ c.format.ensures.text ∙ sym (number_digits_decimal c.args.number (omega (arith, c.ranges.number.fits))) in
    rw digits at c.push_slice.ensures.ok
