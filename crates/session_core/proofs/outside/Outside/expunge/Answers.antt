use Rattle.session_core.specs.Around.{Around}
use Rattle.session_core.proofs.DeskLemmas.{expunge_keeps}
use Rattle.session_core.proofs.outside.Outside.expunge.Goals as goal

pub returns-clause-keeps : goal.returns-clause-keeps
returns-clause-keeps g c =
    let a : Around = record {
      wire = g.W.Wire.observed c.self.inside.wire.now;
      keeper = g.J.Keeper.observed c.self.inside.keeper.now;
      clock = g.C.Clock.observed c.self.inside.clock.now;
      desk = c.self.inside.desk;
      loans = record { wire = c.self.inside.wire.ghost_name; keeper = c.self.inside.keeper.ghost_name; clock = c.self.inside.clock.ghost_name };
    } in
    rw (← c.self.view_is)
    (expunge_keeps a c.expunge_from.new.store (g.J.Keeper.observed c.expunge_from.new.keeper) c.expunge_from.result c.args.ids.now c.expunge_from.ensures.changes c.expunge_from.ensures.cause c.expunge_from.ensures.wire)
