use Rattle.std.proofs.lemmas.Result.{on_ok_weaker}
use Rattle.address_lists.proofs.UnitsOnto.{fresh_end, mailbox_end, mailbox_written}
use Rattle.address_lists.proofs.emptied.write_units_of.Goals as goal

pub push_not_served-requires-clause-units : goal.push_not_served-requires-clause-units
push_not_served-requires-clause-units c = fresh_end _ c.new-units.ensures

pub write_rest-requires : goal.write_rest-requires
write_rest-requires c = mailbox_end _ _ c.new-units.result _ _ _ c.requires.writable c.new-units.ensures c.in_ok-push_not_served.ensures

pub returns : goal.returns
returns c = on_ok_weaker c.write_rest.result (λ r. mailbox_written _ _ c.new-units.result _ _ _ _ c.new-units.ensures c.in_ok-push_not_served.ensures r) c.write_rest.ensures
