use Rattle.std.proofs.Common.{◌∙◌, sym, arith, length}
use Rattle.mime_tree.proofs.LinesAt.{HasLine-from, begins_at, nothing_begins, plain_there, not_empty, is_empty}
use Rattle.mime_tree.proofs.reading.is_marked_at.Goals as goal

pub returns-then-is_empty : goal.returns-then-is_empty
returns-then-is_empty c =
    let none = is_empty (length c.split_at.result.1.now) c.if-is_empty.ensures in
    let back = c.split_at.ensures.back_len in
    sym (nothing_begins (c.args.boundaries.now) c.args.octets.now c.args.at (omega arith))

pub returns-then-not-starts_with : goal.returns-then-not-starts_with
returns-then-not-starts_with c = sym (plain_there c.args.boundaries.now c.args.octets.now c.split_at.result.1.now c.args.at c.split_at.ensures.back (sym c.if-not-starts_with.ensures.value))

pub returns : goal.returns
returns c =
    let has = HasLine-from c.args.octets.now c.split_at.result.1.now c.split_at-2.result.0.now c.args.at c.first_line.result.text c.first_line.result.len c.split_at.ensures.back
    (not_empty (length c.split_at.result.1.now) c.if-is_empty.ensures) c.split_at-2.ensures.front c.first_line.ensures.text c.first_line.ensures.order c.first_line.ensures.bound c.first_line.ensures.some c.first_line.ensures.line c.requires.fits in
    c.is_marked.ensures ∙ sym (begins_at (c.args.boundaries.now) c.args.octets.now c.args.at _ _ c.split_at-2.result.0.now has)
