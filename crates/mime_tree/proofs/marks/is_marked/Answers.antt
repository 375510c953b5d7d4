use Rattle.std.proofs.Common.{◌+◌, ◌∙◌, sym, refl}
use Rattle.mime_tree.specs.private.Open.{is_marked_text}
use Rattle.mime_tree.proofs.Padded.{unmarked_plain, one_more_boundary, marked_longer}
use Rattle.mime_tree.proofs.marks.is_marked.Goals as goal

pub returns-then-not-starts_with : goal.returns-then-not-starts_with
returns-then-not-starts_with c = sym (unmarked_plain c.args.boundaries.now c.args.text.now (sym c.if-not-starts_with.ensures.value))

pub loop-boundary-init : goal.loop-boundary-init
unfolding is_marked_text
loop-boundary-init c = refl

pub returns-then-is_some : goal.returns-then-is_some
returns-then-is_some c =
    let more = one_more_boundary c.args.boundaries.now c.loop-boundary.boundary-index c.boundary-item.result c.as_slice.result.now c.args.text.now c.mark_by.result c.loop-boundary-test.true c.loop-boundary.invariant (c.as_slice.ensures ∙ c.boundary-item.is) c.mark_by.ensures in
    sym (marked_longer c.args.boundaries.now (c.loop-boundary.boundary-index + 1) c.args.text.now (more ∙ sym c.if-is_some.ensures))

pub loop-boundary-preserved : goal.loop-boundary-preserved
loop-boundary-preserved c =
    one_more_boundary c.args.boundaries.now c.loop-boundary.boundary-index c.boundary-item.result c.as_slice.result.now c.args.text.now c.mark_by.result c.loop-boundary-test.true c.loop-boundary.invariant (c.as_slice.ensures ∙ c.boundary-item.is) c.mark_by.ensures
    ∙ sym c.if-is_some.ensures
