use Rattle.std.proofs.Common.{◌∙◌, sym, [], ◌∷◌, ◌++◌, ◌≡◌, true, false}
use Rattle.std.proofs.lemmas.Bool.{not-true, not-false}
use Rattle.mime_tree.specs.Marks.{dashes, is_padded}
use Rattle.mime_tree.proofs.LinesAt.{HasLine-from, more_left, marked_some}
use Rattle.mime_tree.proofs.NextParts.{next-end, next-marked, next-part, next-close}
use Rattle.mime_tree.proofs.reading.next_part.Goals as goal

pub returns-then-not-stop : goal.returns-then-not-stop
returns-then-not-stop c = next-end (c.args.boundaries.now) c.args.boundary.now c.args.octets.now c.args.stop c.requires.fits (c.requires.at_end (not-true c.args.stop.marked c.if-not-stop.true)) (not-true c.args.stop.marked c.if-not-stop.true)

pub returns-then-is_marked : goal.returns-then-is_marked
returns-then-is_marked c =
    let some = marked_some (c.args.boundaries.now ++ c.args.boundary.now ∷ []) c.args.octets.now c.args.stop.at (sym c.requires.marked ∙ not-false c.args.stop.marked c.if-not-stop.false) in
    let has = HasLine-from c.args.octets.now c.split_at.result.1.now c.split_at-2.result.0.now c.args.stop.at c.first_line-line.result.text c.first_line-line.result.len c.split_at.ensures.back
    (more_left c.args.octets.now c.split_at.result.1.now c.args.stop.at c.split_at.ensures.back some) c.split_at-2.ensures.front c.first_line-line.ensures.text c.first_line-line.ensures.order c.first_line-line.ensures.bound c.first_line-line.ensures.some c.first_line-line.ensures.line c.requires.fits in
    next-marked (c.args.boundaries.now) c.args.boundary.now c.args.octets.now c.args.stop _ _ c.split_at-2.result.0.now has (sym c.if-is_marked.ensures) c.requires.fits (not-false c.args.stop.marked c.if-not-stop.false)

pub returns-then-is_delimiter : goal.returns-then-is_delimiter
returns-then-is_delimiter c =
    let some = marked_some (c.args.boundaries.now ++ c.args.boundary.now ∷ []) c.args.octets.now c.args.stop.at (sym c.requires.marked ∙ not-false c.args.stop.marked c.if-not-stop.false) in
    let has = HasLine-from c.args.octets.now c.split_at.result.1.now c.split_at-2.result.0.now c.args.stop.at c.first_line-line.result.text c.first_line-line.result.len c.split_at.ensures.back
    (more_left c.args.octets.now c.split_at.result.1.now c.args.stop.at c.split_at.ensures.back some) c.split_at-2.ensures.front c.first_line-line.ensures.text c.first_line-line.ensures.order c.first_line-line.ensures.bound c.first_line-line.ensures.some c.first_line-line.ensures.line c.requires.fits in
    let mark : is_padded (dashes ++ c.args.boundary.now) c.split_at-2.result.0.now ≡ true = sym c.if-is_delimiter.ensures in
    next-part (c.args.boundaries.now) c.args.boundary.now c.args.octets.now c.args.stop.at _ _ c.split_at-2.result.0.now c.start_after.result has (sym c.if-is_marked.ensures) mark c.start_after.ensures

pub returns-else-is_delimiter : goal.returns-else-is_delimiter
returns-else-is_delimiter c =
    let some = marked_some (c.args.boundaries.now ++ c.args.boundary.now ∷ []) c.args.octets.now c.args.stop.at (sym c.requires.marked ∙ not-false c.args.stop.marked c.if-not-stop.false) in
    let has = HasLine-from c.args.octets.now c.split_at.result.1.now c.split_at-2.result.0.now c.args.stop.at c.first_line-line.result.text c.first_line-line.result.len c.split_at.ensures.back
    (more_left c.args.octets.now c.split_at.result.1.now c.args.stop.at c.split_at.ensures.back some) c.split_at-2.ensures.front c.first_line-line.ensures.text c.first_line-line.ensures.order c.first_line-line.ensures.bound c.first_line-line.ensures.some c.first_line-line.ensures.line c.requires.fits in
    let other : is_padded (dashes ++ c.args.boundary.now) c.split_at-2.result.0.now ≡ false = sym c.if-is_delimiter.ensures in
    next-close (c.args.boundaries.now) c.args.boundary.now c.args.octets.now c.args.stop.at _ _ c.split_at-2.result.0.now c.skip_lines.result has (sym c.if-is_marked.ensures) other (sym c.requires.marked ∙ not-false c.args.stop.marked c.if-not-stop.false) c.skip_lines.ensures
