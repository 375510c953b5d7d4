use Rattle.std.proofs.Common.{◌<◌, length, arith}
use Rattle.std.proofs.lemmas.Bool.{iff_false}
use Rattle.std.proofs.lemmas.Bool.Decides.{nat_tests}
use Rattle.param_grammar.proofs.NameLemmas.{not-HasSuffix}
use Rattle.param_grammar.proofs.names.read_suffix.Goals as goal

pub returns-then-not-is_number-clause-none : goal.returns-then-not-is_number-clause-none
returns-then-not-is_number-clause-none c =
    let some : 0 < length c.args.suffix.now = grind (arith, nat_tests) in
    not-HasSuffix c.args.suffix.now _ _ some c.cut_star-is_extended.ensures.spelled c.cut_star-is_extended.ensures.none (iff_false c.is_number.ensures c.if-not-is_number.true)
