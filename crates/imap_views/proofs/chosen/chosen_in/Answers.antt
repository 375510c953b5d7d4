use Rattle.std.proofs.Common.{◌≡◌, ◌<◌, length, ◌∙◌, arith}
use Rattle.std.proofs.Math.Seq.{take-length}
use Rattle.utf8_fields.specs.Block.{name_of}
use Rattle.mime_tree.proofs.HighLemmas.{no_field}
use Rattle.imap_views.specs.Chosen.{is_chosen}
use Rattle.imap_views.proofs.HeaderLemmas.{block_placed}
use Rattle.imap_views.proofs.ChosenLemmas.{one_more_field}
use Rattle.imap_views.proofs.chosen.chosen_in.Goals.{then-branch+in_ok-push_slice, else-branch}
use Rattle.imap_views.proofs.chosen.chosen_in.Goals as goal

pub is_chosen-requires : goal.is_chosen-requires
is_chosen-requires c =
    let lt : c.loop-field.field-index < length c.args.header.now.block.fields = rw (← c.as_slice-field-items.ensures) c.loop-field-test.true in
    let placed = block_placed c.args.header.now.octets.now c.args.header.now.block.fields _ c.requires c.loop-field.field-index no_field lt in
    rw c.as_slice-field-items.ensures placed.name

pub overflow_add-field : goal.overflow_add-field
overflow_add-field c =
    let lt : c.loop-field.field-index < length c.args.header.now.block.fields = rw (← c.as_slice-field-items.ensures) c.loop-field-test.true in
    let placed = block_placed c.args.header.now.octets.now c.args.header.now.block.fields _ c.requires c.loop-field.field-index no_field lt in
    rw c.as_slice-field-items.ensures (omega (arith, placed.raw))

pub slice_bounds-push_slice-end : goal.slice_bounds-push_slice-end
slice_bounds-push_slice-end c =
    let lt : c.loop-field.field-index < length c.args.header.now.block.fields = rw (← c.as_slice-field-items.ensures) c.loop-field-test.true in
    let placed = block_placed c.args.header.now.octets.now c.args.header.now.block.fields _ c.requires c.loop-field.field-index no_field lt in
    rw c.as_slice-field-items.ensures (omega (arith, placed.raw))

pub loop-field-preserved : goal.loop-field-preserved
loop-field-preserved c = λ asked holds.
    one_more_field c.args.header.now.octets.now (λ field. is_chosen asked c.args.negated (name_of c.args.header.now.octets.now field)) c.as_slice-field-items.result.now c.loop-field.field-index no_field
    c.in_ok-is_chosen.field-0 c.loop-field.made c.if-branch.made c.loop-field-test.true (c.in_ok-is_chosen.ensures asked holds) (c.loop-field.invariant asked holds)
    (elim c.if-branch.branch [
      | then-branch+in_ok-push_slice w ↦ rw (w.if-branch.true) (w.made-is ∙ w.in_ok-push_slice.ensures.ok)
      | else-branch w ↦ rw (w.if-branch.false) (w.made-is)
    ])

pub returns : goal.returns
returns c = λ asked holds.
    let all : c.loop-field.field-index ≡ length c.as_slice-field-items.result.now = omega (arith, c.loop-field.auto.field-index-end) in
    rw (all, take-length, c.as_slice-field-items.ensures) at c.loop-field.invariant asked holds
