use Rattle.std.proofs.Common.{◌<◌, length, arith}
use Rattle.std.proofs.lemmas.Bool.Decides.{nat_tests}
use Rattle.dsn_terms.proofs.XtextUnits.{HasRead-push, not-IsXtext, BeginsUnit-shortens}
use Rattle.dsn_terms.proofs.xtext.read_octets.Goals as goal

pub returns-in_default-clause-none : goal.returns-in_default-clause-none
returns-in_default-clause-none c octets is =
    let some : 0 < length c.loop-rest.rest.now = grind (arith, nat_tests) in
    not-IsXtext c.args.text.now _ c.loop-rest.rest.now c.loop-rest.invariant some c.in_default.ensures.none octets is

pub loop-rest-smaller : goal.loop-rest-smaller
loop-rest-smaller c = BeginsUnit-shortens _ _ _ c.in-Some.ensures.found

pub loop-rest-preserved : goal.loop-rest-preserved
loop-rest-preserved c = HasRead-push _ _ c.loop-rest.rest.now _ _ c.in-Some.octet c.loop-rest.invariant c.in-Some.ensures.found c.in_ok-push.ensures.ok
