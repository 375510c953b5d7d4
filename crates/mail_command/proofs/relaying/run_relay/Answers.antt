use Rattle.std.proofs.Common.{refl}
use Rattle.std.proofs.lemmas.Result.{err_from_is_err_and}
use Rattle.session_core.specs.declared.desk.TheConstants.{LIMITS}
use Rattle.mail_command.proofs.RelayLemmas.{relay_cause, relay_failed, relay_told, relay_unopened}
use Rattle.mail_command.proofs.SessionLemmas.{opened_exact}
use Rattle.mail_command.proofs.relaying.run_relay.Goals as goal

pub returns-in-Err-clause-runs : goal.returns-in-Err-clause-runs
returns-in-Err-clause-runs g c = relay_unopened LIMITS c.args.host.now _ _ c.in-Err.fault c.tell_unopened.result c.open_desk.ensures.leaves c.in-Err.ensures.fault c.tell_unopened.ensures.observed refl

pub returns-in_err-end-clause-runs : goal.returns-in_err-end-clause-runs
returns-in_err-end-clause-runs g c =
    let failed = err_from_is_err_and c.from_residual.result c.from_residual.ensures.1 in
    rw (failed.1, failed.2)
    (relay_failed LIMITS c.args.host.now _ _ (g.J.Keeper.observed c.open_desk.new.keeper) c.in-Ok.desk c.relay_queue-desk.result.0 c.relay_queue-desk.result.1 _
    (record {
      leaves = c.open_desk.ensures.leaves;
      opens = record { fold = c.in-Ok.ensures.fold; opens = c.in-Ok.ensures.opens };
      works = c.in-Ok.ensures.«open»;
      limits_are = c.in-Ok.ensures.limits;
      relays = c.relay_queue-desk.ensures.relays;
      left = c.relay_queue-desk.ensures.left;
      cause = c.relay_queue-desk.ensures.cause;
    })
    c.in_err-end.was refl)

pub returns-clause-runs : goal.returns-clause-runs
returns-clause-runs g c =
    relay_told LIMITS c.args.host.now _ _ (g.J.Keeper.observed c.open_desk.new.keeper) c.in-Ok.desk c.relay_queue-desk.result.0 c.relay_queue-desk.result.1 c.in_ok-end.end c.tell_end.result
    (record {
      leaves = c.open_desk.ensures.leaves;
      opens = record { fold = c.in-Ok.ensures.fold; opens = c.in-Ok.ensures.opens };
      works = c.in-Ok.ensures.«open»;
      limits_are = c.in-Ok.ensures.limits;
      relays = c.relay_queue-desk.ensures.relays;
      left = c.relay_queue-desk.ensures.left;
      cause = c.relay_queue-desk.ensures.cause;
    })
    c.in_ok-end.was c.tell_end.ensures.observed

pub returns-clause-journal : goal.returns-clause-journal
returns-clause-journal g c = opened_exact (g.J.Keeper.observed c.args.keeper.now).octets (g.J.Keeper.observed c.open_desk.new.keeper).octets c.in-Ok.desk.store _ c.in-Ok.ensures.opens

pub returns-clause-cause : goal.returns-clause-cause
returns-clause-cause g c =
    relay_cause _ _ (g.J.Keeper.observed c.args.keeper.now) (g.J.Keeper.observed c.open_desk.new.keeper) _ c.open_desk.result c.relay_queue-desk.result.1 c.in_ok-end.end c.tell_end.result
    c.open_desk.ensures.cause c.relay_queue-desk.ensures.keeper c.tell_end.ensures.observed c.tell_end.ensures.cause
