use Rattle.std.proofs.Common.{refl, arith}
use Rattle.mime_tree.proofs.LinesAt.{HasLine-from, more_left, after_line-marked, after_line-plain}
use Rattle.mime_tree.proofs.reading.start_after.Goals as goal

pub returns-then-is_marked_at : goal.returns-then-is_marked_at
returns-then-is_marked_at c =
    let has = HasLine-from c.args.octets.now c.split_at.result.1.now _ c.args.at c.first_line-line.result.text c.first_line-line.result.len c.split_at.ensures.back
    (more_left c.args.octets.now c.split_at.result.1.now c.args.at c.split_at.ensures.back c.requires.fits) refl c.first_line-line.ensures.text c.first_line-line.ensures.order c.first_line-line.ensures.bound
    c.first_line-line.ensures.some c.first_line-line.ensures.line (omega arith) in
    after_line-marked (c.args.boundaries.now) c.args.octets.now c.args.at c.first_line-line.result.text c.first_line-line.result.len _ has c.first_line-line.ensures.order c.if-is_marked_at.ensures

pub returns-else-is_marked_at : goal.returns-else-is_marked_at
returns-else-is_marked_at c =
    let has = HasLine-from c.args.octets.now c.split_at.result.1.now _ c.args.at c.first_line-line.result.text c.first_line-line.result.len c.split_at.ensures.back
    (more_left c.args.octets.now c.split_at.result.1.now c.args.at c.split_at.ensures.back c.requires.fits) refl c.first_line-line.ensures.text c.first_line-line.ensures.order c.first_line-line.ensures.bound
    c.first_line-line.ensures.some c.first_line-line.ensures.line (omega arith) in
    after_line-plain (c.args.boundaries.now) c.args.octets.now c.args.at c.first_line-line.result.text c.first_line-line.result.len _ has c.if-is_marked_at.ensures
