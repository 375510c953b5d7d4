use Rattle.std.proofs.Common.{rules, sym}
use Rattle.relay_session.proofs.DialRuns.{connected_keeper, relays_lent, wire_sure}
use Rattle.relay_session.proofs.dialling.relay_connected.Goals as goal

pub returns-clause-relays : goal.returns-clause-relays
returns-clause-relays g c =
    relays_lent c.new-outside.result c.relay_mail_objects-end.new.outside (g.W.Wire.observed c.args.wire.now) _ (g.J.Keeper.observed c.args.keeper.now) _ (g.C.Clock.observed c.args.clock.now) _ c.args.desk _ c.relay_mail_objects-end.result
    (record { wire_is = c.new-outside.ensures.wire; keeper_is = c.new-outside.ensures.keeper; clock_is = c.new-outside.ensures.clock; desk_is = c.new-outside.ensures.desk })
    (record { wire_is = search rules; keeper_is = search rules; clock_is = search rules; desk_is = sym c.into_parts-desk.ensures.desk })
    c.relay_mail_objects-end.ensures.keeps.loans c.relay_mail_objects-end.ensures.relays

pub returns-clause-cause : goal.returns-clause-cause
returns-clause-cause g c =
    wire_sure c.new-outside.result c.relay_mail_objects-end.new.outside (g.W.Wire.observed c.args.wire.now) c.relay_mail_objects-end.result c.new-outside.ensures.wire c.relay_mail_objects-end.ensures.cause

pub returns-clause-keeper : goal.returns-clause-keeper
returns-clause-keeper g c =
    connected_keeper c.new-outside.result c.relay_mail_objects-end.new.outside (g.J.Keeper.observed c.args.keeper.now) _ c.relay_mail_objects-end.result c.new-outside.ensures.keeper (search rules)
    c.relay_mail_objects-end.ensures.keeps
