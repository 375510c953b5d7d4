use Rattle.std.proofs.Common.{◌++◌, take, drop, arith}
use Rattle.imap_views.specs.private.Reading.{seen_by}
use Rattle.imap_views.proofs.Counting.{IsPiece, is_piece, counted_none, counted_more, counted_bound, counted_all}
use Rattle.imap_views.proofs.structures.count_lines.Goals as goal

pub loop-at-init : goal.loop-at-init
loop-at-init c = counted_none (seen_by c.args.seeing.now).octets c.args.from c.args.to c.requires.order

read : (c : goal.After-count_ends-more)
    → IsPiece (seen_by c.args.seeing.now).octets c.loop-at.at c.args.to c.read_at-count.result (take c.read_at-count.result (c.read_at-count.new.into ++ drop c.min-wanted.result c.loop-at.piece))
read c =
    is_piece (seen_by c.args.seeing.now).octets c.loop-at.at c.args.to 4096 c.min-wanted.result c.read_at-count.result c.loop-at.piece c.read_at-count.new.into
    c.loop-at-test.true c.requires.within (omega arith) (omega arith) c.min-wanted.ensures c.read_at-count.ensures.count c.read_at-count.ensures.octets

pub overflow_add-lines : goal.overflow_add-lines
overflow_add-lines c =
    let bound = counted_bound (seen_by c.args.seeing.now).octets c.args.from c.args.to c.loop-at.at c.loop-at.lines c.read_at-count.result c.count_ends-more.result.0 c.loop-at.is_after_cr c.count_ends-more.result.1 _
    (read c) c.count_ends-more.ensures c.loop-at.invariant in
    omega arith

pub loop-at-preserved : goal.loop-at-preserved
loop-at-preserved c =
    counted_more (seen_by c.args.seeing.now).octets c.args.from c.args.to c.loop-at.at c.loop-at.lines c.read_at-count.result c.count_ends-more.result.0 c.loop-at.is_after_cr c.count_ends-more.result.1 _
    (read c) c.count_ends-more.ensures c.loop-at.invariant

pub returns : goal.returns
returns c = counted_all (seen_by c.args.seeing.now).octets c.args.from c.args.to c.loop-at.at c.loop-at.lines c.loop-at.is_after_cr c.loop-at-test.false c.loop-at.invariant
