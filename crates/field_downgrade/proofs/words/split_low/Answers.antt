use Rattle.std.proofs.Common.{◌≡◌, ◌<◌, length, refl, sym, ◌∙◌, arith}
use Rattle.std.proofs.lemmas.Bool.Decides.{nat_tests}
use Rattle.field_downgrade.proofs.StretchLemmas.{low_start, low_turn, low_high, low_end}
use Rattle.field_downgrade.proofs.words.split_low.Goals as goal

pub loop-alloc-init : goal.loop-alloc-init
loop-alloc-init c = low_start c.args.body.now _ refl refl refl refl

pub returns-then-not-is_ascii : goal.returns-then-not-is_ascii
returns-then-not-is_ascii c =
    low_high c.args.body.now c.loop-alloc.low c.loop-alloc.rest.now c.split_word.result.0.now c.split_word.result.1.now c.loop-alloc.invariant c.split_word.ensures (sym c.is_ascii.ensures ∙ c.if-not-is_ascii.true)

pub loop-alloc-preserved : goal.loop-alloc-preserved
loop-alloc-preserved c =
    let some : 0 < length c.loop-alloc.rest.now = grind (arith, nat_tests) in
    low_turn c.args.body.now c.loop-alloc.low _ c.loop-alloc.rest.now c.split_word.result.0.now c.split_word.result.1.now c.split_gap.result.0.now c.split_gap.result.1.now c.in_ok-side.side
    c.loop-alloc.invariant some c.split_word.ensures c.split_gap.ensures (sym c.is_ascii.ensures ∙ c.if-not-is_ascii.false) c.in_ok-side.ensures c.front_before.ensures refl c.first_of.ensures refl

pub returns : goal.returns
returns c =
    let none : length c.loop-alloc.rest.now ≡ 0 = grind (arith, nat_tests) in low_end c.args.body.now c.loop-alloc.low c.loop-alloc.rest.now c.loop-alloc.invariant none
