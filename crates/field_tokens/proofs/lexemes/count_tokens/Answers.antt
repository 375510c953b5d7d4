use Rattle.std.proofs.Common.{◌<◌, length, arith}
use Rattle.std.proofs.lemmas.Bool.Decides.{nat_tests}
use Rattle.field_tokens.proofs.MarkLemmas.{CountsTokens-none, CountsTokens-turn, counts_never}
use Rattle.field_tokens.proofs.lexemes.count_tokens.Goals as goal

pub loop-rest-init : goal.loop-rest-init
loop-rest-init c = CountsTokens-none c.args.style c.args.text.now

pub returns-in_default : goal.returns-in_default
returns-in_default c =
    let some : 0 < length c.loop-rest.rest.now = grind (arith, nat_tests) in
    counts_never c.args.style c.args.text.now c.loop-rest.rest.now _ c.loop-rest.invariant some c.in_default.ensures.none

pub loop-rest-preserved : goal.loop-rest-preserved
loop-rest-preserved c =
    let some : 0 < length c.loop-rest.rest.now = grind (arith, nat_tests) in
    CountsTokens-turn c.args.style c.args.text.now c.loop-rest.rest.now _ c.loop-rest.count _ c.loop-rest.invariant some c.in-Some.ensures.found
