use Rattle.surrogate_rope.proofs.OpenGlobals.{closed_without_type, closed_as_other}
use Rattle.surrogate_rope.proofs.building.is_open_global.Goals as goal

pub returns-in_default-2 : goal.returns-in_default-2
returns-in_default-2 c =
    closed_without_type c.args.msg.now c.args.entity.now c.as_slice-fields.result.now c.in_ok-text.field-0 c.as_slice-fields.ensures c.in_ok-text.ensures c.in_default-2.is

pub returns : goal.returns
returns c =
    closed_as_other c.args.msg.now c.args.entity.now c.as_slice-fields.result.now c.in_ok-text.field-0 c.as_slice.result.now c.in_ok-find_global.field-0 c.as_slice-fields.ensures c.in_ok-text.ensures
    (rw c.as_slice.ensures c.in-Some.is) c.in_ok-find_global.ensures.none c.in-None.is
