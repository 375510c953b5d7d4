use Rattle.std.proofs.Common.{rules}
use Rattle.session_core.specs.declared.desk.TheConstants.{LIMITS}
use Rattle.setup_command.specs.Statuses.{status_of}
use Rattle.mail_command.specs.Protocols.{protocol_for}
use Rattle.mail_command.proofs.SessionLemmas.{unopened, served, unopened_exact, opened_exact, served_cause}
use Rattle.mail_command.proofs.sessions.run_session.Goals as goal

pub returns-in-Err-clause-runs : goal.returns-in-Err-clause-runs
returns-in-Err-clause-runs g c =
    unopened (protocol_for c.args.role) (g.C.Clock.observed c.args.clock.now) LIMITS (g.J.Keeper.observed c.args.keeper.now).octets (g.J.Keeper.observed c.open_desk.new.keeper).octets (g.W.Wire.observed c.args.wire.now)
    (g.W.Wire.observed c.tell_unopened.new.wire) c.in-Err.fault c.tell_unopened.result c.open_desk.ensures.leaves c.in-Err.ensures.fault c.tell_unopened.ensures.observed

pub returns-in-Err-clause-journal : goal.returns-in-Err-clause-journal
returns-in-Err-clause-journal g c =
    unopened_exact (g.J.Keeper.observed c.args.keeper.now).octets (g.W.Wire.observed c.args.wire.now) (g.W.Wire.observed c.tell_unopened.new.wire) c.in-Err.fault c.tell_unopened.result
    c.tell_unopened.ensures.observed

pub returns-clause-runs : goal.returns-clause-runs
returns-clause-runs g c =
    served (protocol_for c.args.role) c.new-outside.result c.serve_one-served.new.outside (g.C.Clock.observed c.args.clock.now) (g.J.Keeper.observed c.open_desk.new.keeper) _ (g.W.Wire.observed c.args.wire.now) _ LIMITS
    (g.J.Keeper.observed c.args.keeper.now).octets c.serve_one-served.result _
    (record { clock = c.new-outside.ensures.clock; keeper = c.new-outside.ensures.keeper; wire = c.new-outside.ensures.wire })
    (record {
      leaves = rw c.new-outside.ensures.keeper c.open_desk.ensures.leaves;
      opens = record { fold = rw c.new-outside.ensures.desk c.in-Ok.ensures.fold; opens = rw (c.new-outside.ensures.desk, c.new-outside.ensures.keeper) c.in-Ok.ensures.opens };
      works = rw c.new-outside.ensures.desk c.in-Ok.ensures.«open»;
      limits_are = rw c.new-outside.ensures.desk c.in-Ok.ensures.limits;
    })
    c.serve_one-served.ensures.serves (search rules) (search rules) c.answer_of.ensures

pub returns-clause-journal : goal.returns-clause-journal
returns-clause-journal g c =
    opened_exact (g.J.Keeper.observed c.args.keeper.now).octets (g.J.Keeper.observed c.open_desk.new.keeper).octets c.in-Ok.desk.store (status_of c.answer_of.result) c.in-Ok.ensures.opens

pub returns-clause-cause : goal.returns-clause-cause
returns-clause-cause g c =
    served_cause c.new-outside.result c.serve_one-served.new.outside (g.C.Clock.observed c.args.clock.now) (g.J.Keeper.observed c.args.keeper.now) (g.J.Keeper.observed c.open_desk.new.keeper) _
    (g.W.Wire.observed c.args.wire.now) _ c.in-Ok.desk c.serve_one-served.result _
    (record { clock = c.new-outside.ensures.clock; keeper = c.new-outside.ensures.keeper; wire = c.new-outside.ensures.wire })
    (rw c.in-Ok.is at c.open_desk.ensures.cause) c.serve_one-served.ensures.keeps (search rules) (search rules) c.answer_of.ensures
