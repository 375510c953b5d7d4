use Rattle.std.proofs.Common.{◌≡◌, length, arith}
use Rattle.std.proofs.lemmas.Bool.Decides.{nat_tests}
use Rattle.param_grammar.proofs.ReadLemmas.{unquoted_end}
use Rattle.param_grammar.proofs.contents.unquoted.Goals as goal

pub returns : goal.returns
returns c =
    let end : length c.loop-rest.rest.now ≡ 0 = grind (arith, nat_tests) in
    unquoted_end c.loop-rest.made c.args.octets.now c.loop-rest.rest.now end c.loop-rest.invariant
