use Rattle.std.proofs.Common.{[]}
use Rattle.address_lists.proofs.emptied.write_rest.Goals as goal

pub write_units-requires : goal.write_units-requires
write_units-requires c = rw (c.deref.ensures.value, c.into_done.ensures, c.in_ok-end_text.ensures.done_is) (c.requires [] tt)

pub returns : goal.returns
returns c = rw (c.deref.ensures.value, c.into_done.ensures, c.in_ok-end_text.ensures.done_is) at c.write_units.ensures
