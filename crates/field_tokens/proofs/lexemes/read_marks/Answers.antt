use Rattle.std.proofs.Common.{◌≡◌, ◌<◌, length, arith}
use Rattle.std.proofs.lemmas.Bool.Decides.{nat_tests}
use Rattle.field_tokens.proofs.MarkLemmas.{ReadsMarks-turn, never_marks, marks_found}
use Rattle.field_tokens.proofs.lexemes.read_marks.Goals as goal

pub returns-in_default-first_token-clause-none : goal.returns-in_default-first_token-clause-none
returns-in_default-first_token-clause-none c =
    let some : 0 < length c.loop-rest.rest.now = grind (arith, nat_tests) in
    never_marks c.args.style c.args.text.now c.loop-rest.rest.now _ c.loop-rest.invariant some c.in_default-first_token.ensures.none

pub loop-rest-preserved : goal.loop-rest-preserved
loop-rest-preserved c =
    let some : 0 < length c.loop-rest.rest.now = grind (arith, nat_tests) in
    ReadsMarks-turn c.args.style c.args.text.now c.loop-rest.rest.now _ c.loop-rest.marks.items _ _ _ c.loop-rest.invariant some c.in-Some-first_token.ensures.found c.in_ok-new.ensures.kind c.in_ok-new.ensures.len c.in_ok-push.ensures.items

pub returns-clause-some : goal.returns-clause-some
returns-clause-some c =
    let end : length c.loop-rest.rest.now ≡ 0 = grind (arith, nat_tests) in
    marks_found c.args.style c.args.text.now c.loop-rest.rest.now _ (c.is_line.ensures.0 c.if-not-is_line.false) c.loop-rest.invariant end
