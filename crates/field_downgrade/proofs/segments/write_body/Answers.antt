use Rattle.std.proofs.Common.{◌≡◌, ◌<◌, length, arith}
use Rattle.std.proofs.lemmas.Bool.Decides.{nat_tests}
use Rattle.field_downgrade.proofs.BodyWriting.{body_start, turn, turn_can, turn_next, turn_smaller, body_end}
use Rattle.field_downgrade.proofs.segments.write_body.Goals as goal

pub loop-copied-init : goal.loop-copied-init
loop-copied-init c = body_start c.args.body.now _ _ c.args.made.now c.push_copied_line.new.made _ _ c.requires.folded c.requires.utf8 c.split_gap.ensures c.in_ok-copied.ensures c.in_ok-push_copied_line.ensures

pub write_segment-requires : goal.write_segment-requires
write_segment-requires c =
    let some : 0 < length c.loop-copied.rest.now = grind (arith, nat_tests) in
    turn_can _ _ _ _ _ _ _ _ _ (turn c.args.body.now c.args.made.now c.loop-copied.made c.loop-copied.copied c.in_ok-core.core c.in_ok-next_copied.next_copied c.loop-copied.rest.now c.in_ok-core.following.now
    c.in_ok-next_copied.next.now c.loop-copied.invariant some c.in_ok-core.ensures c.in_ok-next_copied.ensures)

pub loop-copied-smaller : goal.loop-copied-smaller
loop-copied-smaller c =
    let some : 0 < length c.loop-copied.rest.now = grind (arith, nat_tests) in
    turn_smaller _ _ _ _ _ _ _ _ _ (turn c.args.body.now c.args.made.now c.loop-copied.made c.loop-copied.copied c.in_ok-core.core c.in_ok-next_copied.next_copied c.loop-copied.rest.now c.in_ok-core.following.now
    c.in_ok-next_copied.next.now c.loop-copied.invariant some c.in_ok-core.ensures c.in_ok-next_copied.ensures)

pub loop-copied-preserved : goal.loop-copied-preserved
loop-copied-preserved c =
    let some : 0 < length c.loop-copied.rest.now = grind (arith, nat_tests) in
    turn_next _ _ _ _ _ _ _ _ _ _ (turn c.args.body.now c.args.made.now c.loop-copied.made c.loop-copied.copied c.in_ok-core.core c.in_ok-next_copied.next_copied c.loop-copied.rest.now c.in_ok-core.following.now
    c.in_ok-next_copied.next.now c.loop-copied.invariant some c.in_ok-core.ensures c.in_ok-next_copied.ensures) c.in_ok-write_segment.ensures

pub returns : goal.returns
returns c =
    let none : length c.loop-copied.rest.now ≡ 0 = grind (arith, nat_tests) in body_end c.args.body.now c.args.made.now c.loop-copied.made c.loop-copied.copied c.loop-copied.rest.now c.loop-copied.invariant none
