use Rattle.std.proofs.lemmas.Result.{on_ok_weaker}
use Rattle.address_lists.proofs.UnitsOnto.{done_writable, drained}
use Rattle.address_lists.proofs.emptied.write_done.Goals as goal

pub write_units-requires : goal.write_units-requires
write_units-requires c = rw (c.deref.ensures.value) (done_writable c.args.units.now _ c.take_done-done.ensures.units c.requires)

pub returns : goal.returns
returns c = on_ok_weaker c.write_units.result (λ a. drained c.args.units.now _ _ _ _ c.take_done-done.ensures.units c.take_done-done.ensures.left (rw (c.deref.ensures.value) at a)) c.write_units.ensures
