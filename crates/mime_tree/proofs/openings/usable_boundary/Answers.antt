use Rattle.std.proofs.Common.{◌≡◌, ◌<◌, ◌≤◌, length, arith, Some, refl, sym, ap, ◌∙◌, subst}
use Rattle.std.specs.Prelude.{IfOk}
use Rattle.mime_tree.specs.Openings.{usable_of}
use Rattle.mime_tree.proofs.OpeningLemmas.{boundary-here, boundary-later, boundary-none, piece_below, piece_past}
use Rattle.mime_tree.proofs.openings.usable_boundary.Goals as goal

pub returns-then-begins_boundary : goal.returns-then-begins_boundary
returns-then-begins_boundary c pieces has =
    let number = c.loop-number.number in
    let inside : number < length c.args.placed.now.places.items = omega (arith, c.loop-number-test.true, c.len-number-end.ensures) in
    let below = piece_below c.args.text.now c.args.placed.now pieces number has inside in
    let named = sym (c.begins_boundary.ensures pieces has) ∙ c.if-begins_boundary.true in
    subst (λ said. IfOk c.usable_text.result (λ o. o ≡ usable_of said)) (ap Some (c.in_ok-unit.ensures pieces has) ∙ sym (boundary-here pieces number (c.loop-number.invariant pieces has) below named))
    c.usable_text.ensures

pub loop-number-preserved : goal.loop-number-preserved
loop-number-preserved c pieces has =
    let number = c.loop-number.number in
    let inside : number < length c.args.placed.now.places.items = omega (arith, c.loop-number-test.true, c.len-number-end.ensures) in
    let below = piece_below c.args.text.now c.args.placed.now pieces number has inside in
    boundary-later pieces number (c.loop-number.invariant pieces has) below (sym (c.begins_boundary.ensures pieces has) ∙ c.if-begins_boundary.false)

pub returns : goal.returns
returns c pieces has =
    let number = c.loop-number.number in
    let past : length c.args.placed.now.places.items ≤ number = omega (arith, c.loop-number-test.false, c.len-number-end.ensures) in
    rw (boundary-none pieces number (c.loop-number.invariant pieces has) (piece_past c.args.text.now c.args.placed.now pieces number has past)) refl
