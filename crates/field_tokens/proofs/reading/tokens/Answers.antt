use Rattle.std.proofs.Common.{◌≡◌, ◌<◌, length, arith, refl}
use Rattle.std.proofs.lemmas.Bool.Decides.{nat_tests}
use Rattle.field_tokens.proofs.TokenLists.{ReadsSpans-none, ReadsSpans-turn, never_tokens, tokens_found, HasTokens-once}
use Rattle.field_tokens.proofs.reading.tokens.Goals as goal

pub loop-rest-init : goal.loop-rest-init
loop-rest-init c = ReadsSpans-none c.args.style c.args.text.now _ c.new-tokens.ensures.items

pub returns-in_default-clause-malformed : goal.returns-in_default-clause-malformed
returns-in_default-clause-malformed c _ =
    let some : 0 < length c.loop-rest.rest.now = grind (arith, nat_tests) in
    never_tokens c.args.style c.args.text.now c.loop-rest.rest.now _ c.loop-rest.invariant some c.in_default.ensures.none

pub returns-in_default-clause-exact : goal.returns-in_default-clause-exact
returns-in_default-clause-exact c tokens has =
    let some : 0 < length c.loop-rest.rest.now = grind (arith, nat_tests) in
    absurd (never_tokens c.args.style c.args.text.now c.loop-rest.rest.now _ c.loop-rest.invariant some c.in_default.ensures.none tokens has)

pub loop-rest-preserved : goal.loop-rest-preserved
loop-rest-preserved c =
    let some : 0 < length c.loop-rest.rest.now = grind (arith, nat_tests) in
    ReadsSpans-turn c.args.style c.args.text.now c.loop-rest.rest.now _ c.loop-rest.tokens.items _ _ c.loop-rest.invariant some c.in-Some.ensures.found refl refl c.in-Ok.ensures.items

pub returns-clause-ok : goal.returns-clause-ok
returns-clause-ok c =
    let end : length c.loop-rest.rest.now ≡ 0 = grind (arith, nat_tests) in
    tokens_found c.args.style c.args.text.now c.loop-rest.rest.now _ (c.is_line.ensures.0 c.if-not-is_line.false) c.loop-rest.invariant end

pub returns-clause-exact : goal.returns-clause-exact
returns-clause-exact c tokens has =
    let end : length c.loop-rest.rest.now ≡ 0 = grind (arith, nat_tests) in
    let found = tokens_found c.args.style c.args.text.now c.loop-rest.rest.now _ (c.is_line.ensures.0 c.if-not-is_line.false) c.loop-rest.invariant end in
    HasTokens-once c.args.style c.args.text.now _ tokens found has
