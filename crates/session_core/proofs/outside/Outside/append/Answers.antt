use Rattle.session_core.specs.Around.{Around}
use Rattle.session_core.proofs.DeskLemmas.{append_keeps}
use Rattle.session_core.proofs.outside.Outside.append.Goals as goal

pub returns-clause-keeps : goal.returns-clause-keeps
returns-clause-keeps g c =
    let a : Around = record {
      wire = g.W.Wire.observed c.self.inside.wire.now;
      keeper = g.J.Keeper.observed c.self.inside.keeper.now;
      clock = g.C.Clock.observed c.self.inside.clock.now;
      desk = c.self.inside.desk;
      loans = record { wire = c.self.inside.wire.ghost_name; keeper = c.self.inside.keeper.ghost_name; clock = c.self.inside.clock.ghost_name };
    } in
    rw (← c.self.view_is)
    (append_keeps a c.append_to.new.store (g.J.Keeper.observed c.append_to.new.keeper) c.append_to.result c.args.folder c.args.attributes.flags c.args.attributes.mark c.args.date.now c.args.octets.now c.append_to.ensures.changes c.append_to.ensures.cause c.append_to.ensures.wire)
