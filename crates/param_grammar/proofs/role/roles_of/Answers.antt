use Rattle.std.proofs.Common.{◌≡◌, length, arith}
use Rattle.std.proofs.lemmas.Bool.Decides.{nat_tests}
use Rattle.param_grammar.specs.Places.{piece_in}
use Rattle.param_grammar.specs.private.Ordered.{name_in}
use Rattle.param_grammar.proofs.RunLemmas.{IsNameRun-within, RolesGo-run, RolesGo-turn, after_shorter, numbered_end, roles_end}
use Rattle.param_grammar.proofs.role.roles_of.Goals as goal

pub set_roles-requires-clause-within : goal.set_roles-requires-clause-within
set_roles-requires-clause-within c =
    IsNameRun-within c.args.named.lower.now c.args.named.places.now c.split_run.result.0.now c.in-Some.first.now
    (RolesGo-run c.args.text.now c.args.named.lower.now c.args.named.places.now c.args.order.now c.loop-first.roles.items c.loop-first.rest.now c.in-Some.field-0-1.now c.split_run.result.0.now
    c.split_run.result.1.now c.in-Some.first.now c.requires c.loop-first.invariant c.in-Some.ensures.cases.0 c.split_run.ensures)

pub returns-then-not-branch-clause-none : goal.returns-then-not-branch-clause-none
returns-then-not-branch-clause-none c pieces are all =
    let run =
    RolesGo-run c.args.text.now c.args.named.lower.now c.args.named.places.now c.args.order.now c.loop-first.roles.items c.loop-first.rest.now c.in-Some.field-0-1.now c.split_run.result.0.now
    c.split_run.result.1.now c.in-Some.first.now c.requires c.loop-first.invariant c.in-Some.ensures.cases.0 c.split_run.ensures in
    c.in_ok-set_roles.ensures.none pieces c.in-Some.first.now are run c.if-not-branch.true (all (piece_in pieces c.in-Some.first.now).base)

pub loop-first-smaller : goal.loop-first-smaller
loop-first-smaller c =
    after_shorter (name_in c.args.named.lower.now c.args.named.places.now) c.loop-first.rest.now c.in-Some.field-0-1.now c.split_run.result.0.now c.split_run.result.1.now c.in-Some.first.now
    c.in-Some.ensures.cases.0 c.split_run.ensures

pub loop-first-preserved : goal.loop-first-preserved
loop-first-preserved c =
    let run =
    RolesGo-run c.args.text.now c.args.named.lower.now c.args.named.places.now c.args.order.now c.loop-first.roles.items c.loop-first.rest.now c.in-Some.field-0-1.now c.split_run.result.0.now
    c.split_run.result.1.now c.in-Some.first.now c.requires c.loop-first.invariant c.in-Some.ensures.cases.0 c.split_run.ensures in
    RolesGo-turn c.args.text.now c.args.named.lower.now c.args.named.places.now c.args.order.now c.loop-first.roles.items c.set_roles.new.roles.items c.loop-first.rest.now c.in-Some.field-0-1.now
    c.split_run.result.0.now c.split_run.result.1.now c.in-Some.first.now c.requires c.loop-first.invariant c.in-Some.ensures.cases.0 c.split_run.ensures c.set_roles.ensures.counted
    (λ pieces are. c.in_ok-set_roles.ensures.set pieces c.in-Some.first.now are run c.if-not-branch.false)

pub returns-clause-found : goal.returns-clause-found
returns-clause-found c pieces are =
    let end : length c.loop-first.rest.now ≡ 0 = grind (arith, nat_tests) in
    roles_end c.args.text.now c.args.named.lower.now c.args.named.places.now c.args.order.now c.loop-first.roles.items c.loop-first.rest.now c.requires c.loop-first.invariant end pieces are

pub returns-clause-numbered : goal.returns-clause-numbered
returns-clause-numbered c pieces are =
    let end : length c.loop-first.rest.now ≡ 0 = grind (arith, nat_tests) in
    numbered_end c.args.text.now c.args.named.lower.now c.args.named.places.now c.args.order.now c.loop-first.roles.items c.loop-first.rest.now c.requires c.loop-first.invariant end pieces are
