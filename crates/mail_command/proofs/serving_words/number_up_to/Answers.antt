use Rattle.std.proofs.Common.{arith, ap, sym, ◌∙◌}
use Rattle.std.specs.Fmt.{decimal}
use Rattle.mail_command.proofs.ServeLemmas.{other_text, read_as, read_same}
use Rattle.mail_command.proofs.serving_words.number_up_to.Goals as goal

pub returns-in_default-clause-none : goal.returns-in_default-clause-none
returns-in_default-clause-none c =
    λ number is. c.in_default.not-Ok number (read_as c.args.max number c.args.text.now c.parse.result c.ranges.max.fits is c.parse.ensures.value.0)

pub returns-then-ne-clause-none : goal.returns-then-ne-clause-none
returns-then-ne-clause-none c =
    λ number is. other_text c.format.result.now c.args.text.now
    (c.format.ensures.text ∙ ap decimal (read_same c.args.max number c.in-Ok.number c.args.text.now c.parse.result c.ranges.max.fits is c.parse.ensures.value.0 c.in-Ok.is) ∙ sym is.text_is) c.if-ne.ensures

pub returns-then-number-lt1-clause-none : goal.returns-then-number-lt1-clause-none
returns-then-number-lt1-clause-none c =
    λ number is. let same = read_same c.args.max number c.in-Ok.number c.args.text.now c.parse.result c.ranges.max.fits is c.parse.ensures.value.0 c.in-Ok.is in
    let some = is.some in let bound = is.bound in let out = c.then-number-lt1.either in omega (arith, same, some, bound, out)
