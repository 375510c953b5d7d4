use Rattle.mime_tree.proofs.Padded.{no_boundary, no_dashes, is_close_mark, not_close_mark}
use Rattle.mime_tree.proofs.marks.mark_by.Goals as goal

pub returns-in_default-text_after : goal.returns-in_default-text_after
returns-in_default-text_after c = no_boundary c.args.boundary.now c.args.text.now c.in-Some.dashed.now c.in-Some.ensures.0 c.in-Some.ensures.1 (c.in_default-text_after.ensures)

pub returns-in_default-text_after-2 : goal.returns-in_default-text_after-2
returns-in_default-text_after-2 c =
    no_dashes c.args.boundary.now c.args.text.now c.in-Some.dashed.now c.in-Some-text_after.tail.now
    (record { dashes_first = c.in-Some.ensures.0; dashed_is = c.in-Some.ensures.1; boundary_next = c.in-Some-text_after.ensures.0; tail_is = c.in-Some-text_after.ensures.1; not_blank = c.if-is_white_text.ensures })
    (c.in_default-text_after-2.ensures)

pub returns-then-is_white_text-2 : goal.returns-then-is_white_text-2
returns-then-is_white_text-2 c =
    is_close_mark c.args.boundary.now c.args.text.now c.in-Some.dashed.now c.in-Some-text_after.tail.now c.in-Some-text_after-2.tail.now
    (record { dashes_first = c.in-Some.ensures.0; dashed_is = c.in-Some.ensures.1; boundary_next = c.in-Some-text_after.ensures.0; tail_is = c.in-Some-text_after.ensures.1; not_blank = c.if-is_white_text.ensures })
    c.in-Some-text_after-2.ensures.0 c.in-Some-text_after-2.ensures.1 (c.if-is_white_text-2.ensures)

pub returns-else-is_white_text-2 : goal.returns-else-is_white_text-2
returns-else-is_white_text-2 c =
    not_close_mark c.args.boundary.now c.args.text.now c.in-Some.dashed.now c.in-Some-text_after.tail.now c.in-Some-text_after-2.tail.now
    (record { dashes_first = c.in-Some.ensures.0; dashed_is = c.in-Some.ensures.1; boundary_next = c.in-Some-text_after.ensures.0; tail_is = c.in-Some-text_after.ensures.1; not_blank = c.if-is_white_text.ensures })
    c.in-Some-text_after-2.ensures.0 c.in-Some-text_after-2.ensures.1 (c.if-is_white_text-2.ensures)
