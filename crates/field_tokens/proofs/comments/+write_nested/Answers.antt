use Rattle.std.proofs.Common.{arith}
use Rattle.field_tokens.proofs.CommentWriting.{WritesOn-none, WritesOn-turn, follows, mark_some, opens_more, OpensMore-begins, OpensMore-some, after_utf8, WritesComment-end}
use Rattle.field_tokens.proofs.comments.+write_nested.Goals as goal

pub loop-ascii_text-init : goal.loop-ascii_text-init
loop-ascii_text-init t c = WritesOn-none c.args.levels c.split_mark.result.0 c.args.octets.now c.split_mark.result.1.now _ c.requires.comment c.requires.utf8 c.split_mark.ensures

pub split_mark-mark-requires : goal.split_mark-mark-requires
split_mark-mark-requires t c = mark_some c.args.levels _ (follows c.args.levels c.loop-ascii_text.rest.now _ _ _ _ c.loop-ascii_text.invariant.holds c.in_ok-ascii_text.ensures)

pub returns-then-mark-eq41 : goal.returns-then-mark-eq41
returns-then-mark-eq41 t c =
    WritesComment-end c.args.levels c.split_mark.result.0 c.args.octets.now c.split_mark.result.1.now c.loop-ascii_text.rest.now c.in_ok-ascii_text.after.now c.split_mark-mark.result.1.now _ c.split_mark-mark.result.0 _ _ _ c.args.made.now _ _ _ _
    c.requires.comment c.split_mark.ensures c.in_ok-push_line.ensures c.len-start.ensures c.loop-ascii_text.invariant c.in_ok-ascii_text.ensures c.split_mark-mark.ensures c.if-mark-eq41.true c.split_at.ensures.front
    c.in_ok-end_comment.ensures

pub write_nested-requires : goal.write_nested-requires
write_nested-requires t c =
    let marks = follows c.args.levels c.loop-ascii_text.rest.now _ c.in_ok-ascii_text.after.now _ _ c.loop-ascii_text.invariant.holds c.in_ok-ascii_text.ensures in
    let opens = opens_more c.args.levels _ _ _ marks c.split_mark-mark.ensures c.if-mark-eq41.false in
    (omega (arith, OpensMore-some c.args.levels _ opens), (OpensMore-begins c.args.levels _ opens, after_utf8 c.loop-ascii_text.rest.now _ _ _ _ c.loop-ascii_text.invariant.utf8 c.in_ok-ascii_text.ensures))

pub loop-ascii_text-preserved : goal.loop-ascii_text-preserved
loop-ascii_text-preserved t c =
    let marks = follows c.args.levels c.loop-ascii_text.rest.now _ c.in_ok-ascii_text.after.now _ _ c.loop-ascii_text.invariant.holds c.in_ok-ascii_text.ensures in
    let opens = opens_more c.args.levels _ _ _ marks c.split_mark-mark.ensures c.if-mark-eq41.false in
    WritesOn-turn c.args.levels c.split_mark.result.1.now c.loop-ascii_text.rest.now c.in_ok-ascii_text.after.now c.in_ok-ascii_nested.next.now _ _ _ _ _ _ _ c.loop-ascii_text.invariant c.in_ok-ascii_text.ensures opens c.in_ok-ascii_nested.ensures
