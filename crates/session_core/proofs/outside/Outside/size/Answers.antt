use Rattle.std.proofs.Common.{◌<◌, length, sym, subst}
use Rattle.surrogate_cache.specs.Caching.{asked_by}
use Rattle.session_core.specs.Around.{Around}
use Rattle.session_core.specs.Desks.{IsOpen, kept_octets}
use Rattle.session_core.proofs.CachedLemmas.{shown_asks, shown_keeps}
use Rattle.session_core.proofs.outside.Outside.size.Goals as goal

pub returns-clause-asks : goal.returns-clause-asks
returns-clause-asks g c =
    let a : Around = record {
      wire = g.W.Wire.observed c.self.inside.wire.now;
      keeper = g.J.Keeper.observed c.self.inside.keeper.now;
      clock = g.C.Clock.observed c.self.inside.clock.now;
      desk = c.self.inside.desk;
      loans = record { wire = c.self.inside.wire.ghost_name; keeper = c.self.inside.keeper.ghost_name; clock = c.self.inside.clock.ghost_name };
    } in
    rw (← c.self.view_is) (shown_asks a c.served_size.new.cache c.served_size.result (asked_by g.V.View.mode c.args.id (kept_octets a.desk.store.kept c.args.id)) c.served_size.ensures.fetched)

pub returns-clause-keeps : goal.returns-clause-keeps
returns-clause-keeps g c =
    let a : Around = record {
      wire = g.W.Wire.observed c.self.inside.wire.now;
      keeper = g.J.Keeper.observed c.self.inside.keeper.now;
      clock = g.C.Clock.observed c.self.inside.clock.now;
      desk = c.self.inside.desk;
      loans = record { wire = c.self.inside.wire.ghost_name; keeper = c.self.inside.keeper.ghost_name; clock = c.self.inside.clock.ghost_name };
    } in
    let opens : IsOpen a.desk = subst (λ (x : Around). IsOpen x.desk) (sym c.self.view_is) c.requires.opens in
    let known : c.args.id < length a.desk.store.kept.messages = subst (λ (x : Around). c.args.id < length x.desk.store.kept.messages) (sym c.self.view_is) c.requires.id in
    rw (← c.self.view_is) (shown_keeps a c.served_size.new.cache c.served_size.result g.V.View.mode c.args.id opens known c.served_size.ensures.fetched c.served_size.ensures.loses)
