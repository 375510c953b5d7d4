use Rattle.std.proofs.Common.{◌≡◌, ◌<◌, length, refl, sym, ◌∙◌, subst, arith}
use Rattle.std.proofs.lemmas.Bool.Decides.{nat_tests}
use Rattle.field_downgrade.specs.Words.{TellsEncoded}
use Rattle.field_downgrade.proofs.StretchLemmas.{core_start, core_low, core_high, core_stops, core_end}
use Rattle.field_downgrade.proofs.words.split_core.Goals as goal

pub loop-rest-init : goal.loop-rest-init
loop-rest-init c = core_start c.args.body.now _ refl refl refl refl

pub returns-then-branch : goal.returns-then-branch
returns-then-branch c =
    core_stops c.args.body.now c.loop-rest.core c.loop-rest.after_core.now c.loop-rest.rest.now c.split_word.result.0.now c.split_word.result.1.now c.loop-rest.invariant c.split_word.ensures
    (subst (λ is. TellsEncoded is c.split_word.result.0.now) c.if-branch.true c.in_ok-is_encoded.ensures)

pub loop-rest-preserved-then-not-is_ascii : goal.loop-rest-preserved-then-not-is_ascii
loop-rest-preserved-then-not-is_ascii c =
    let some : 0 < length c.loop-rest.rest.now = grind (arith, nat_tests) in
    core_high c.args.body.now c.loop-rest.core _ c.loop-rest.after_core.now c.loop-rest.rest.now c.split_word.result.0.now c.split_word.result.1.now c.split_gap.result.0.now c.split_gap.result.1.now
    c.loop-rest.invariant some c.split_word.ensures c.split_gap.ensures (subst (λ is. TellsEncoded is c.split_word.result.0.now) c.if-branch.false c.in_ok-is_encoded.ensures) (sym c.is_ascii.ensures ∙ c.if-not-is_ascii.true) c.front_before.ensures refl refl refl

pub loop-rest-preserved : goal.loop-rest-preserved
loop-rest-preserved c =
    let some : 0 < length c.loop-rest.rest.now = grind (arith, nat_tests) in
    core_low c.args.body.now c.loop-rest.core c.loop-rest.after_core.now c.loop-rest.rest.now c.split_word.result.0.now c.split_word.result.1.now c.split_gap.result.0.now c.split_gap.result.1.now
    c.loop-rest.invariant some c.split_word.ensures c.split_gap.ensures (subst (λ is. TellsEncoded is c.split_word.result.0.now) c.if-branch.false c.in_ok-is_encoded.ensures) (sym c.is_ascii.ensures ∙ c.if-not-is_ascii.false)

pub returns : goal.returns
returns c =
    let none : length c.loop-rest.rest.now ≡ 0 = grind (arith, nat_tests) in core_end c.args.body.now c.loop-rest.core c.loop-rest.after_core.now c.loop-rest.rest.now c.loop-rest.invariant none
