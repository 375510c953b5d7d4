use Rattle.field_downgrade.proofs.Writing.{OnOk-then}
use Rattle.surrogate_rope.proofs.storing.store_entity.Goals as goal

pub returns : goal.returns
returns c = OnOk-then c.push_slice.result _ _ (λ form. record { form = rw c.entity_form.ensures.form at form; small = c.entity_form.ensures.small }) c.push_slice.ensures.ok
