use Rattle.std.proofs.Common.{refl, ◌∙◌}
use Rattle.utf8_fields.specs.private.Views.{parts_value}
use Rattle.field_downgrade.proofs.Rewriting.{Adds-unstructured}
use Rattle.field_downgrade.proofs.Writing.{OnOk-then}
use Rattle.field_downgrade.proofs.field.push_unstructured.Goals as goal

pub returns : goal.returns
returns c =
    let w = c.in_ok-write_body.ensures in
    OnOk-then c.push_slice-2.result _ _
    (λ new_is. Adds-unstructured (parts_value c.args.parts.now) w.words c.args.made.now c.push.new.self c.write_body.new.made c.push_slice-2.new.self w.has w.utf8
    (c.in_ok-push.ensures.ok ∙ rw c.in_ok-push_slice.ensures.ok refl) w.writes new_is) c.push_slice-2.ensures.ok
