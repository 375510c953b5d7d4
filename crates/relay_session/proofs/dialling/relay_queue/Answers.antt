use Rattle.std.proofs.Common.{refl, rules, ◌∙◌}
use Rattle.relay_session.proofs.DialRuns.{connected_cause, no_wire_fault, not_empty, queue_connected, queue_idle, queue_unreached, unreached_left}
use Rattle.relay_session.proofs.dialling.relay_queue.Goals as goal

pub returns-then-is_empty-clause-relays : goal.returns-then-is_empty-clause-relays
returns-then-is_empty-clause-relays g c =
    rw (c.end.ensures, c.before-then-is_empty.ensures) (queue_idle c.args.host.now _ c.in-Ok.queue c.in-Ok.ensures.queue (c.is_empty.ensures.0 c.if-is_empty.true))

pub returns-in-Err-Outside-clause-relays : goal.returns-in-Err-Outside-clause-relays
returns-in-Err-Outside-clause-relays g c =
    rw (c.end-in-Err-Outside.ensures, c.before-in-Err-Outside.ensures, c.open_count-left.ensures, c.as_slice.ensures)
    (queue_unreached c.args.host.now _ _ c.in-Ok.queue c.in-Ok.ensures.queue (not_empty c.in-Ok.queue c.is_empty.result c.is_empty.ensures c.if-is_empty.false)
    (record { desk = refl; keeper = refl; transcript = c.dial.ensures.transcript }) (rw c.in-Err-Outside.field-0-is at c.in-Err-Outside.ensures.asked) (search rules))

pub returns-in-Err-Outside-clause-left : goal.returns-in-Err-Outside-clause-left
returns-in-Err-Outside-clause-left g c =
    rw (c.end-in-Err-Outside.ensures, c.before-in-Err-Outside.ensures, c.open_count-left.ensures, c.as_slice.ensures)
    (unreached_left c.args.desk c.in-Ok.queue c.in-Ok.ensures.queue (not_empty c.in-Ok.queue c.is_empty.result c.is_empty.ensures c.if-is_empty.false))

pub returns-clause-relays : goal.returns-clause-relays
returns-clause-relays g c =
    queue_connected c.args.host.now _ _ (g.L.Conn.Wire.observed c.in-Ok-dial.conn) (g.L.Conn.Wire.observed c.relay_connected-answer.new.wire) c.in-Ok.queue _ c.in-Ok.ensures.queue
    (not_empty c.in-Ok.queue c.is_empty.result c.is_empty.ensures c.if-is_empty.false) (c.hand_back.ensures.asked ∙ c.in-Ok-dial.ensures.asked) c.in-Ok-dial.ensures.dialled c.relay_connected-answer.ensures.relays c.hand_back.ensures.transcript

pub returns-clause-cause : goal.returns-clause-cause
returns-clause-cause g c =
    connected_cause _ _ (g.L.Conn.Wire.observed c.in-Ok-dial.conn) _ _ _ c.in-Ok-dial.ensures.dialled c.relay_connected-answer.ensures.relays.1 c.relay_connected-answer.ensures.cause

pub returns-clause-no_wire : goal.returns-clause-no_wire
returns-clause-no_wire g c = no_wire_fault _ _ _ c.relay_connected-answer.ensures.relays.1
