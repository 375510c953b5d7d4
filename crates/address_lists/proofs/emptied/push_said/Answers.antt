use Rattle.std.proofs.lemmas.Result.{on_ok_weaker}
use Rattle.address_grammar.specs.private.ListViews.{unit_values}
use Rattle.address_lists.proofs.UnitsOnto.{out_of, end_after, said_taken}
use Rattle.address_lists.proofs.emptied.push_said.Goals as goal

pub write_done-requires : goal.write_done-requires
write_done-requires c = end_after c.args.units.now _ c.args.made.now c.args.made.now (unit_values c.args.said.now) (out_of _ _ _ _ c.in_ok-push_units.ensures) c.requires.said c.requires.units

pub returns : goal.returns
returns c = on_ok_weaker c.write_done.result (λ d. said_taken c.args.units.now _ _ _ _ (unit_values c.args.said.now) c.in_ok-push_units.ensures d) c.write_done.ensures
