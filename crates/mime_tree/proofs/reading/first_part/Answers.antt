use Rattle.std.proofs.Common.{sym, ◌++◌, ◌≡◌, true, false}
use Rattle.mime_tree.specs.Marks.{dashes, is_padded}
use Rattle.mime_tree.specs.Parts.{parts_of}
use Rattle.mime_tree.specs.private.Open.{lines_at, region}
use Rattle.mime_tree.proofs.LinesAt.{HasLine-from, more_left}
use Rattle.mime_tree.proofs.NextParts.{IsPreamble-none, IsPreamble-more, first-marked, first-end, first-part}
use Rattle.mime_tree.proofs.reading.first_part.Goals as goal

pub loop-at-init : goal.loop-at-init
loop-at-init c = IsPreamble-none (c.args.boundaries.now) c.args.boundary.now c.args.octets.now c.args.start c.requires.start

pub returns-then-is_marked : goal.returns-then-is_marked
returns-then-is_marked c =
    let has = HasLine-from c.args.octets.now c.split_at.result.1.now c.split_at-in-loop-at.result.0.now c.loop-at.at c.first_line-line.result.text c.first_line-line.result.len c.split_at.ensures.back
    (more_left c.args.octets.now c.split_at.result.1.now c.loop-at.at c.split_at.ensures.back c.loop-at-test.true) c.split_at-in-loop-at.ensures.front c.first_line-line.ensures.text c.first_line-line.ensures.order c.first_line-line.ensures.bound c.first_line-line.ensures.some c.first_line-line.ensures.line c.loop-at.invariant.passed.fits in
    first-marked (c.args.boundaries.now) c.args.boundary.now c.args.octets.now (parts_of c.args.boundary.now c.args.start.at (region (c.args.boundaries.now) (lines_at c.args.octets.now c.args.start.from))) c.args.start.from c.loop-at.at _ _ c.split_at-in-loop-at.result.0.now c.loop-at.invariant has (sym c.if-is_marked.ensures)

pub loop-at-preserved : goal.loop-at-preserved
loop-at-preserved c =
    let has = HasLine-from c.args.octets.now c.split_at.result.1.now c.split_at-in-loop-at.result.0.now c.loop-at.at c.first_line-line.result.text c.first_line-line.result.len c.split_at.ensures.back
    (more_left c.args.octets.now c.split_at.result.1.now c.loop-at.at c.split_at.ensures.back c.loop-at-test.true) c.split_at-in-loop-at.ensures.front c.first_line-line.ensures.text c.first_line-line.ensures.order c.first_line-line.ensures.bound c.first_line-line.ensures.some c.first_line-line.ensures.line c.loop-at.invariant.passed.fits in
    let other : is_padded (dashes ++ c.args.boundary.now) c.split_at-in-loop-at.result.0.now ≡ false = sym c.if-is_delimiter.ensures in
    IsPreamble-more (c.args.boundaries.now) c.args.boundary.now c.args.octets.now (parts_of c.args.boundary.now c.args.start.at (region (c.args.boundaries.now) (lines_at c.args.octets.now c.args.start.from))) c.args.start.from c.loop-at.at _ _ c.split_at-in-loop-at.result.0.now c.loop-at.invariant has (sym c.if-is_marked.ensures) other

pub returns-then-is_delimiter : goal.returns-then-is_delimiter
returns-then-is_delimiter c =
    let has = HasLine-from c.args.octets.now c.split_at.result.1.now c.split_at-in-loop-at.result.0.now c.loop-at.at c.first_line-line.result.text c.first_line-line.result.len c.split_at.ensures.back
    (more_left c.args.octets.now c.split_at.result.1.now c.loop-at.at c.split_at.ensures.back c.loop-at-test.true) c.split_at-in-loop-at.ensures.front c.first_line-line.ensures.text c.first_line-line.ensures.order c.first_line-line.ensures.bound c.first_line-line.ensures.some c.first_line-line.ensures.line c.loop-at.invariant.passed.fits in
    let mark : is_padded (dashes ++ c.args.boundary.now) c.split_at-in-loop-at.result.0.now ≡ true = sym c.if-is_delimiter.ensures in
    first-part (c.args.boundaries.now) c.args.boundary.now c.args.octets.now (parts_of c.args.boundary.now c.args.start.at (region (c.args.boundaries.now) (lines_at c.args.octets.now c.args.start.from))) c.args.start.from c.loop-at.at _ _ c.split_at-in-loop-at.result.0.now c.start_after.result c.loop-at.invariant has (sym c.if-is_marked.ensures) mark c.start_after.ensures

pub returns : goal.returns
returns c = first-end (c.args.boundaries.now) c.args.boundary.now c.args.octets.now (parts_of c.args.boundary.now c.args.start.at (region (c.args.boundaries.now) (lines_at c.args.octets.now c.args.start.from))) c.args.start.from c.loop-at.at c.loop-at.invariant c.loop-at-test.false
