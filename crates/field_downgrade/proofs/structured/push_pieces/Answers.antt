use Rattle.std.proofs.Common.{refl, ◌∙◌}
use Rattle.utf8_fields.specs.private.Views.{parts_value}
use Rattle.field_downgrade.proofs.StructuredWriting.{puts_pieces, puts_none}
use Rattle.field_downgrade.proofs.structured.push_pieces.Goals as goal

pub returns-then-not-branch : goal.returns-then-not-branch
returns-then-not-branch c =
    puts_none c.args.open_global (parts_value c.args.parts.now) c.args.value.now c.args.made.now c.push.new.self c.write_value.new.made (c.in_ok-push.ensures.ok ∙ rw c.in_ok-push_slice.ensures.ok refl)
    (rw (c.requires, c.if-not-branch.true) at c.in_ok-write_value.ensures)

pub returns : goal.returns
returns c =
    puts_pieces c.args.open_global (parts_value c.args.parts.now) c.args.value.now c.args.made.now c.push.new.self c.write_value.new.made c.push_slice-2.new.self
    (c.in_ok-push.ensures.ok ∙ rw c.in_ok-push_slice.ensures.ok refl) (rw (c.requires, c.if-not-branch.false) at c.in_ok-write_value.ensures) c.in_ok-push_slice-2.ensures.ok
