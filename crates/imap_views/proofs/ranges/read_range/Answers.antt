use Rattle.std.proofs.Common.{◌≤◌, length, arith}
use Rattle.surrogate_rope.specs.Served.{shown_octets}
use Rattle.imap_views.proofs.Counting.{is_piece, read_more}
use Rattle.imap_views.proofs.ranges.read_range.Goals as goal

pub loop-at-preserved : goal.loop-at-preserved
loop-at-preserved c =
    let octets = shown_octets c.args.msg.now c.args.shown.now in
    let end = c.min-end.result in
    let within : end ≤ length octets = omega (arith, c.min-end.ensures, c.size.ensures) in
    let read =
    is_piece octets c.loop-at.at end 4096 c.min-wanted.result c.read_at-count.result c.loop-at.piece c.read_at-count.new.into
    c.loop-at-test.true within (omega arith) (omega arith) c.min-wanted.ensures c.read_at-count.ensures.count c.read_at-count.ensures.octets in
    read_more octets c.args.span.at end c.loop-at.at c.read_at-count.result c.loop-at.made _ c.push_slice.new.self read c.in_ok-push_slice.ensures.ok c.loop-at.invariant
