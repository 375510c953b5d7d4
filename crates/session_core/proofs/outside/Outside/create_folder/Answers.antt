use Rattle.session_core.specs.Around.{Around}
use Rattle.session_core.proofs.DeskLemmas.{folder_keeps}
use Rattle.session_core.proofs.outside.Outside.create_folder.Goals as goal

pub returns-clause-keeps : goal.returns-clause-keeps
returns-clause-keeps g c =
    let a : Around = record {
      wire = g.W.Wire.observed c.self.inside.wire.now;
      keeper = g.J.Keeper.observed c.self.inside.keeper.now;
      clock = g.C.Clock.observed c.self.inside.clock.now;
      desk = c.self.inside.desk;
      loans = record { wire = c.self.inside.wire.ghost_name; keeper = c.self.inside.keeper.ghost_name; clock = c.self.inside.clock.ghost_name };
    } in
    rw (← c.self.view_is)
    (folder_keeps a c.create_folder_in.new.store (g.J.Keeper.observed c.create_folder_in.new.keeper) c.create_folder_in.result c.args.account c.args.name.now c.create_folder_in.ensures.changes c.create_folder_in.ensures.cause c.create_folder_in.ensures.wire)
