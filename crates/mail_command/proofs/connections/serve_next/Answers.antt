use Rattle.std.proofs.Common.{None, Some, rules, refl}
use Rattle.session_core.specs.declared.desk.TheConstants.{LIMITS}
use Rattle.mail_command.specs.Protocols.{protocol_for}
use Rattle.mail_command.proofs.ConnectionLemmas.{goes_nowhere, goes_on, not_broken, served_keeper, served_next, still_works}
use Rattle.mail_command.proofs.SessionLemmas.{served_cause}
use Rattle.mail_command.specs.Running.{status_of_served}
use Rattle.mail_command.proofs.connections.serve_next.Goals as goal

pub returns-in-KeeperFault-clause-serves : goal.returns-in-KeeperFault-clause-serves
returns-in-KeeperFault-clause-serves g c =
    served_next (protocol_for c.args.role) c.new-outside.result c.serve_one-served.new.outside (g.C.Clock.observed c.args.clock.now) (g.J.Keeper.observed c.next_desk.new.keeper) _ (g.W.Wire.observed c.args.wire.now) _
    c.args.kept None LIMITS (g.J.Keeper.observed c.args.keeper.now).octets c.serve_one-served.result
    (record { clock = c.new-outside.ensures.clock; keeper = c.new-outside.ensures.keeper; wire = c.new-outside.ensures.wire })
    (record {
      opens = rw (c.new-outside.ensures.desk, c.new-outside.ensures.keeper) c.in_ok-desk.ensures.opens;
      anew = rw (c.new-outside.ensures.desk, c.new-outside.ensures.keeper) c.in_ok-desk.ensures.anew;
      cache = rw c.new-outside.ensures.desk c.in_ok-desk.ensures.cache;
      place = rw (c.new-outside.ensures.desk, c.new-outside.ensures.keeper) c.in_ok-desk.ensures.end;
      works = rw c.new-outside.ensures.desk c.in_ok-desk.ensures.«open»;
      limits_are = rw c.new-outside.ensures.desk c.in_ok-desk.ensures.limits;
    })
    c.serve_one-served.ensures.serves (search rules) (search rules) tt

pub returns-in_default-clause-serves : goal.returns-in_default-clause-serves
returns-in_default-clause-serves g c =
    served_next (protocol_for c.args.role) c.new-outside.result c.serve_one-served.new.outside (g.C.Clock.observed c.args.clock.now) (g.J.Keeper.observed c.next_desk.new.keeper) _ (g.W.Wire.observed c.args.wire.now) _
    c.args.kept (Some c.into_parts-desk.result.0) LIMITS (g.J.Keeper.observed c.args.keeper.now).octets c.serve_one-served.result
    (record { clock = c.new-outside.ensures.clock; keeper = c.new-outside.ensures.keeper; wire = c.new-outside.ensures.wire })
    (record {
      opens = rw (c.new-outside.ensures.desk, c.new-outside.ensures.keeper) c.in_ok-desk.ensures.opens;
      anew = rw (c.new-outside.ensures.desk, c.new-outside.ensures.keeper) c.in_ok-desk.ensures.anew;
      cache = rw c.new-outside.ensures.desk c.in_ok-desk.ensures.cache;
      place = rw (c.new-outside.ensures.desk, c.new-outside.ensures.keeper) c.in_ok-desk.ensures.end;
      works = rw c.new-outside.ensures.desk c.in_ok-desk.ensures.«open»;
      limits_are = rw c.new-outside.ensures.desk c.in_ok-desk.ensures.limits;
    })
    c.serve_one-served.ensures.serves (search rules) (search rules) c.into_parts-desk.ensures.desk

pub returns-in_default-clause-goes_on : goal.returns-in_default-clause-goes_on
returns-in_default-clause-goes_on g c =
    goes_on (protocol_for c.args.role) c.new-outside.result c.serve_one-served.new.outside _ c.args.kept LIMITS (g.J.Keeper.observed c.args.keeper.now).octets c.serve_one-served.result c.into_parts-desk.result.0
    (record {
      opens = rw (c.new-outside.ensures.desk, c.new-outside.ensures.keeper) c.in_ok-desk.ensures.opens;
      anew = rw (c.new-outside.ensures.desk, c.new-outside.ensures.keeper) c.in_ok-desk.ensures.anew;
      cache = rw c.new-outside.ensures.desk c.in_ok-desk.ensures.cache;
      place = rw (c.new-outside.ensures.desk, c.new-outside.ensures.keeper) c.in_ok-desk.ensures.end;
      works = rw c.new-outside.ensures.desk c.in_ok-desk.ensures.«open»;
      limits_are = rw c.new-outside.ensures.desk c.in_ok-desk.ensures.limits;
    })
    c.serve_one-served.ensures.serves (not_broken c.serve_one-served.result c.in_default.not-KeeperFault) (search rules) c.into_parts-desk.ensures.desk

pub returns-in_default-clause-kept : goal.returns-in_default-clause-kept
returns-in_default-clause-kept g c =
    still_works c.new-outside.result c.serve_one-served.new.outside LIMITS c.serve_one-served.result c.into_parts-desk.result.0 (rw c.new-outside.ensures.desk c.in_ok-desk.ensures.«open»)
    (rw c.new-outside.ensures.desk c.in_ok-desk.ensures.limits) c.serve_one-served.ensures.keeps (not_broken c.serve_one-served.result c.in_default.not-KeeperFault) c.into_parts-desk.ensures.desk

pub returns-in-KeeperFault-clause-session_cause : goal.returns-in-KeeperFault-clause-session_cause
returns-in-KeeperFault-clause-session_cause g c =
    served_cause c.new-outside.result c.serve_one-served.new.outside (g.C.Clock.observed c.args.clock.now) (g.J.Keeper.observed c.args.keeper.now) (g.J.Keeper.observed c.next_desk.new.keeper) _
    (g.W.Wire.observed c.args.wire.now) _ c.in_ok-desk.desk c.serve_one-served.result (status_of_served c.serve_one-served.result)
    (record { clock = c.new-outside.ensures.clock; keeper = c.new-outside.ensures.keeper; wire = c.new-outside.ensures.wire })
    c.in_ok-desk.ensures.cause c.serve_one-served.ensures.keeps (search rules) (search rules) refl

pub returns-in_default-clause-session_cause : goal.returns-in_default-clause-session_cause
returns-in_default-clause-session_cause g c =
    served_cause c.new-outside.result c.serve_one-served.new.outside (g.C.Clock.observed c.args.clock.now) (g.J.Keeper.observed c.args.keeper.now) (g.J.Keeper.observed c.next_desk.new.keeper) _
    (g.W.Wire.observed c.args.wire.now) _ c.in_ok-desk.desk c.serve_one-served.result (status_of_served c.serve_one-served.result)
    (record { clock = c.new-outside.ensures.clock; keeper = c.new-outside.ensures.keeper; wire = c.new-outside.ensures.wire })
    c.in_ok-desk.ensures.cause c.serve_one-served.ensures.keeps (search rules) (search rules) refl

pub returns-in-KeeperFault-clause-goes_on : goal.returns-in-KeeperFault-clause-goes_on
returns-in-KeeperFault-clause-goes_on g c = goes_nowhere c.args.kept (g.J.Keeper.observed c.args.keeper.now).octets _

pub returns-in-KeeperFault-clause-cause : goal.returns-in-KeeperFault-clause-cause
returns-in-KeeperFault-clause-cause g c =
    served_keeper c.new-outside.result c.serve_one-served.new.outside (g.C.Clock.observed c.args.clock.now) (g.J.Keeper.observed c.args.keeper.now) (g.J.Keeper.observed c.next_desk.new.keeper) _
    (g.W.Wire.observed c.args.wire.now) c.in_ok-desk.desk c.serve_one-served.result _
    (record { clock = c.new-outside.ensures.clock; keeper = c.new-outside.ensures.keeper; wire = c.new-outside.ensures.wire })
    c.in_ok-desk.ensures.cause c.serve_one-served.ensures.keeps (search rules) (λ bad. cc)

pub returns-in_default-clause-cause : goal.returns-in_default-clause-cause
returns-in_default-clause-cause g c =
    served_keeper c.new-outside.result c.serve_one-served.new.outside (g.C.Clock.observed c.args.clock.now) (g.J.Keeper.observed c.args.keeper.now) (g.J.Keeper.observed c.next_desk.new.keeper) _
    (g.W.Wire.observed c.args.wire.now) c.in_ok-desk.desk c.serve_one-served.result _
    (record { clock = c.new-outside.ensures.clock; keeper = c.new-outside.ensures.keeper; wire = c.new-outside.ensures.wire })
    c.in_ok-desk.ensures.cause c.serve_one-served.ensures.keeps (search rules) (λ bad. cc)
