use Rattle.std.proofs.Common.{◌∙◌, sym, ap, take}
use Rattle.std.specs.Str.{bytes_eq}
use Rattle.mime_tree.proofs.LinesAt.{HasLine-from, begins_at, more_left, HasPassedHeader-none, HasPassedHeader-more, IsHeaderStop-marked, IsHeaderStop-empty, IsHeaderStop-end}
use Rattle.mime_tree.proofs.reading.skip_header.Goals as goal

pub loop-at-init : goal.loop-at-init
loop-at-init c = HasPassedHeader-none (c.args.boundaries.now) c.args.octets.now c.args.from c.requires.fits

pub loop-at-preserved : goal.loop-at-preserved
loop-at-preserved c =
    let has = HasLine-from c.args.octets.now c.split_at.result.1.now c.split_at-in-loop-at-2.result.0.now c.loop-at.at c.first_line-line.result.text c.first_line-line.result.len c.split_at.ensures.back
    (more_left c.args.octets.now c.split_at.result.1.now c.loop-at.at c.split_at.ensures.back c.loop-at-test.true) c.split_at-in-loop-at-2.ensures.front c.first_line-line.ensures.text c.first_line-line.ensures.order c.first_line-line.ensures.bound c.first_line-line.ensures.some c.first_line-line.ensures.line c.loop-at.invariant.fits in
    let whole = c.split_at-in-loop-at.ensures.front ∙ ap (take c.first_line-line.result.len) c.split_at.ensures.back ∙ sym has.line_is in
    HasPassedHeader-more (c.args.boundaries.now) c.args.octets.now c.args.from c.loop-at.at _ _ c.split_at-in-loop-at-2.result.0.now c.split_at-in-loop-at.result.0.now c.loop-at.invariant has whole (sym c.if-is_marked.ensures)
    (sym (c.if-eq.ensures ∙ ap (bytes_eq c.split_at-in-loop-at.result.0.now) c.as_slice.ensures))

pub returns-then-is_marked : goal.returns-then-is_marked
returns-then-is_marked c =
    let has = HasLine-from c.args.octets.now c.split_at.result.1.now c.split_at-in-loop-at-2.result.0.now c.loop-at.at c.first_line-line.result.text c.first_line-line.result.len c.split_at.ensures.back
    (more_left c.args.octets.now c.split_at.result.1.now c.loop-at.at c.split_at.ensures.back c.loop-at-test.true) c.split_at-in-loop-at-2.ensures.front c.first_line-line.ensures.text c.first_line-line.ensures.order c.first_line-line.ensures.bound c.first_line-line.ensures.some c.first_line-line.ensures.line c.loop-at.invariant.fits in
    IsHeaderStop-marked (c.args.boundaries.now) c.args.octets.now c.args.from c.loop-at.at c.loop-at.invariant
    (begins_at (c.args.boundaries.now) c.args.octets.now c.loop-at.at _ _ c.split_at-in-loop-at-2.result.0.now has ∙ sym c.if-is_marked.ensures)

pub returns-then-eq : goal.returns-then-eq
returns-then-eq c =
    let has = HasLine-from c.args.octets.now c.split_at.result.1.now c.split_at-in-loop-at-2.result.0.now c.loop-at.at c.first_line-line.result.text c.first_line-line.result.len c.split_at.ensures.back
    (more_left c.args.octets.now c.split_at.result.1.now c.loop-at.at c.split_at.ensures.back c.loop-at-test.true) c.split_at-in-loop-at-2.ensures.front c.first_line-line.ensures.text c.first_line-line.ensures.order c.first_line-line.ensures.bound c.first_line-line.ensures.some c.first_line-line.ensures.line c.loop-at.invariant.fits in
    let whole = c.split_at-in-loop-at.ensures.front ∙ ap (take c.first_line-line.result.len) c.split_at.ensures.back ∙ sym has.line_is in
    IsHeaderStop-empty (c.args.boundaries.now) c.args.octets.now c.args.from c.loop-at.at _ _ c.split_at-in-loop-at-2.result.0.now c.split_at-in-loop-at.result.0.now c.loop-at.invariant has whole (sym c.if-is_marked.ensures)
    (sym (c.if-eq.ensures ∙ ap (bytes_eq c.split_at-in-loop-at.result.0.now) c.as_slice.ensures))

pub returns : goal.returns
returns c = IsHeaderStop-end (c.args.boundaries.now) c.args.octets.now c.args.from c.loop-at.at c.loop-at.invariant c.loop-at-test.false
