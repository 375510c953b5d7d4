use Rattle.std.proofs.Common.{◌≡◌, length, sym, ◌∙◌, arith}
use Rattle.std.proofs.lemmas.Bool.Decides.{nat_tests}
use Rattle.field_downgrade.proofs.BodyWriting.{whole_text}
use Rattle.field_downgrade.proofs.segments.is_whole_text.Goals as goal

pub returns-in-empty-empty : goal.returns-in-empty-empty
returns-in-empty-empty c = λ plain.
    let no_left : length c.args.left.now ≡ 0 = grind (arith, nat_tests) in
    let no_right : length c.args.right.now ≡ 0 = grind (arith, nat_tests) in
    whole_text c.args.left.now c.args.core.now c.args.right.now no_left no_right (sym c.has_no_line_end.ensures ∙ plain)
