use Rattle.std.proofs.Common.{◌<◌, length, arith}
use Rattle.std.proofs.lemmas.Bool.Decides.{nat_tests}
use Rattle.encapsulated_fields.proofs.XtextLemmas.{ReadsTo-push, not-ReadsAs, ReadsAs-utf8, BeginsWith-shortens}
use Rattle.encapsulated_fields.proofs.xtext.read_xtext.Goals as goal

pub returns-in_default-clause-none : goal.returns-in_default-clause-none
returns-in_default-clause-none c address is = c.in_default.ensures.cases.0 (ReadsAs-utf8 c.args.text.now address is).0

pub returns-in_default-first_item-clause-none : goal.returns-in_default-first_item-clause-none
returns-in_default-first_item-clause-none c address is =
    let some : 0 < length c.loop-rest.rest.now = grind (arith, nat_tests) in
    not-ReadsAs _ _ c.loop-rest.rest.now c.loop-rest.invariant.1 some c.in_default-first_item.ensures.none address is

pub loop-rest-smaller : goal.loop-rest-smaller
loop-rest-smaller c = BeginsWith-shortens _ _ _ c.in-Some.ensures.found

pub loop-rest-preserved : goal.loop-rest-preserved
loop-rest-preserved c = (
  c.in-Some.ensures.utf8,
  ReadsTo-push _ _ c.loop-rest.rest.now _ _ c.in-Some.character c.loop-rest.invariant.1 c.in-Some.ensures.found c.in_ok-push_char.ensures,
)
