use Rattle.std.proofs.Common.{◌∙◌, sym}
use Rattle.mime_tree.proofs.LinesAt.{HasLine-from, begins_at, more_left, HasPassed-none, HasPassed-more, IsStop-marked, IsStop-end, IsStop-all}
use Rattle.mime_tree.proofs.reading.skip_lines.Goals as goal

pub returns-then-is_empty : goal.returns-then-is_empty
returns-then-is_empty c = IsStop-all c.args.boundaries.now c.args.octets.now c.args.from c.if-is_empty.ensures c.requires.fits

pub loop-at-init : goal.loop-at-init
loop-at-init c = HasPassed-none (c.args.boundaries.now) c.args.octets.now c.args.from c.requires.fits

pub loop-at-preserved : goal.loop-at-preserved
loop-at-preserved c =
    let has = HasLine-from c.args.octets.now c.split_at.result.1.now c.split_at-in-loop-at.result.0.now c.loop-at.at c.first_line-line.result.text c.first_line-line.result.len c.split_at.ensures.back
    (more_left c.args.octets.now c.split_at.result.1.now c.loop-at.at c.split_at.ensures.back c.loop-at-test.true) c.split_at-in-loop-at.ensures.front c.first_line-line.ensures.text c.first_line-line.ensures.order c.first_line-line.ensures.bound c.first_line-line.ensures.some c.first_line-line.ensures.line c.loop-at.invariant.fits in
    HasPassed-more (c.args.boundaries.now) c.args.octets.now c.args.from c.loop-at.at _ _ c.split_at-in-loop-at.result.0.now c.loop-at.invariant has (sym c.if-is_marked.ensures)

pub returns-then-is_marked : goal.returns-then-is_marked
returns-then-is_marked c =
    let has = HasLine-from c.args.octets.now c.split_at.result.1.now c.split_at-in-loop-at.result.0.now c.loop-at.at c.first_line-line.result.text c.first_line-line.result.len c.split_at.ensures.back
    (more_left c.args.octets.now c.split_at.result.1.now c.loop-at.at c.split_at.ensures.back c.loop-at-test.true) c.split_at-in-loop-at.ensures.front c.first_line-line.ensures.text c.first_line-line.ensures.order c.first_line-line.ensures.bound c.first_line-line.ensures.some c.first_line-line.ensures.line c.loop-at.invariant.fits in
    IsStop-marked (c.args.boundaries.now) c.args.octets.now c.args.from c.loop-at.at c.loop-at.invariant
    (begins_at (c.args.boundaries.now) c.args.octets.now c.loop-at.at _ _ c.split_at-in-loop-at.result.0.now has ∙ sym c.if-is_marked.ensures)

pub returns : goal.returns
returns c = IsStop-end (c.args.boundaries.now) c.args.octets.now c.args.from c.loop-at.at c.loop-at.invariant c.loop-at-test.false
