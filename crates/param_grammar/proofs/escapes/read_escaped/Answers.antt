use Rattle.std.proofs.Common.{◌<◌, length, arith}
use Rattle.std.proofs.lemmas.Bool.Decides.{nat_tests}
use Rattle.param_grammar.proofs.EscapeLemmas.{ReadsTo-push, not-IsEscaped}
use Rattle.param_grammar.proofs.escapes.read_escaped.Goals as goal

pub returns-in_default-clause-none : goal.returns-in_default-clause-none
returns-in_default-clause-none c octets is =
    let some : 0 < length c.loop-rest.rest.now = grind (arith, nat_tests) in
    not-IsEscaped _ _ c.loop-rest.rest.now c.loop-rest.invariant some c.in_default.ensures.none octets is

pub loop-rest-preserved : goal.loop-rest-preserved
loop-rest-preserved c =
    ReadsTo-push _ _ c.loop-rest.rest.now _ _ c.in-Some.octet c.loop-rest.invariant c.in-Some.ensures.found c.in_ok-push.ensures.ok
