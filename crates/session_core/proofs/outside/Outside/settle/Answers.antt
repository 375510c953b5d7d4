use Rattle.session_core.specs.Around.{Around}
use Rattle.session_core.proofs.DeskLemmas.{settle_keeps}
use Rattle.session_core.proofs.outside.Outside.settle.Goals as goal

pub returns-clause-keeps : goal.returns-clause-keeps
returns-clause-keeps g c =
    let a : Around = record {
      wire = g.W.Wire.observed c.self.inside.wire.now;
      keeper = g.J.Keeper.observed c.self.inside.keeper.now;
      clock = g.C.Clock.observed c.self.inside.clock.now;
      desk = c.self.inside.desk;
      loans = record { wire = c.self.inside.wire.ghost_name; keeper = c.self.inside.keeper.ghost_name; clock = c.self.inside.clock.ghost_name };
    } in
    rw (← c.self.view_is)
    (settle_keeps a c.settle_in.new.store (g.J.Keeper.observed c.settle_in.new.keeper) c.settle_in.result c.args.entry c.args.index c.settle_in.ensures.changes c.settle_in.ensures.cause c.settle_in.ensures.wire)
