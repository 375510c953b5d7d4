use Rattle.std.proofs.Common.{◌∙◌}
use Rattle.field_downgrade.proofs.BodyWriting.{left_needs, right_needs, segment_utf8, segment_written}
use Rattle.field_downgrade.proofs.Writing.{OnOk-then}
use Rattle.field_downgrade.proofs.segments.write_segment.Goals as goal

pub cut_left-white-requires : goal.cut_left-white-requires
cut_left-white-requires c = left_needs c.args.before.now c.args.core.now c.args.copied.now _ c.requires (c.as_slice.ensures ∙ c.in_ok-left_run.ensures)

pub cut_right-next-requires : goal.cut_right-next-requires
cut_right-next-requires c = right_needs c.args.before.now c.args.core.now c.args.copied.now _ c.requires (c.as_slice-2.ensures ∙ c.in_ok-right_run.ensures)

pub push_core-requires : goal.push_core-requires
push_core-requires c =
    segment_utf8 c.args.before.now c.args.core.now c.args.copied.now _ _ _ _ _ _ c.requires (c.as_slice.ensures ∙ c.in_ok-left_run.ensures) (c.as_slice-2.ensures ∙ c.in_ok-right_run.ensures) c.cut_left-white.ensures
    c.cut_right-next.ensures

pub returns : goal.returns
returns c =
    OnOk-then c.push_copied_line.result _ _
    (λ new_is. segment_written c.args.before.now c.args.core.now c.args.copied.now _ _ _ _ c.args.made.now c.push_core.new.made c.push_copied_line.new.made _ _ (c.as_slice.ensures ∙ c.in_ok-left_run.ensures)
    (c.as_slice-2.ensures ∙ c.in_ok-right_run.ensures) c.cut_left-white.ensures c.cut_right-next.ensures c.in_ok-push_core.ensures new_is) c.push_copied_line.ensures
