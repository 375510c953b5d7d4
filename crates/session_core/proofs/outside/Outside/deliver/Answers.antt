use Rattle.session_core.specs.Around.{Around}
use Rattle.session_core.proofs.DeskLemmas.{deliver_keeps}
use Rattle.session_core.proofs.outside.Outside.deliver.Goals as goal

pub returns-clause-keeps : goal.returns-clause-keeps
returns-clause-keeps g c =
    let a : Around = record {
      wire = g.W.Wire.observed c.self.inside.wire.now;
      keeper = g.J.Keeper.observed c.self.inside.keeper.now;
      clock = g.C.Clock.observed c.self.inside.clock.now;
      desk = c.self.inside.desk;
      loans = record { wire = c.self.inside.wire.ghost_name; keeper = c.self.inside.keeper.ghost_name; clock = c.self.inside.clock.ghost_name };
    } in
    rw (← c.self.view_is)
    (deliver_keeps a c.deliver_to.new.store (g.J.Keeper.observed c.deliver_to.new.keeper) c.deliver_to.result c.args.delivery.now c.deliver_to.ensures.changes c.deliver_to.ensures.cause c.deliver_to.ensures.wire)
