use Rattle.std.proofs.lemmas.Result.{err_from_is_err_and}
use Rattle.mail_wire.specs.declared.outside.Fault.TheVariants as fault
use Rattle.surrogate_cache.specs.Served.{is_enabled}
use Rattle.session_core.proofs.StepLemmas.{Steps-stop}
use Rattle.imap_session.specs.Machine.{mode_of}
use Rattle.imap_session.specs.Session.{ImapStands, imap_protocol, state_of}
use Rattle.imap_session.proofs.SessionLemmas.{Steps-broken, Steps-taken, feeds_by, ready_after, said_now, used_bound}
use Rattle.imap_session.proofs.session.ImapMachineMachine.take_next.Goals as goal

pub returns-in_err-used-clause-steps : goal.returns-in_err-used-clause-steps
returns-in_err-used-clause-steps g c =
    let failed = err_from_is_err_and c.from_residual.result c.from_residual.ensures.1 in
    rw (failed.1, failed.2) (Steps-stop imap_protocol ImapStands c.args.outside.now c.args.self c.args.kept.now c.args.kept.now c.args.piece.now fault.Memory (λ bad. cc))

pub answer_event-answer-requires-clause-said : goal.answer_event-answer-requires-clause-said
answer_event-answer-requires-clause-said g c =
    let feeds = feeds_by c.is_enabled.result (is_enabled (mode_of (state_of c.args.self.state))) c.args.self.reader c.feed.new.self c.args.piece.now c.in_ok-used.used c.in_ok-used.event c.is_enabled.ensures
    c.in_ok-used.ensures.observed c.in_ok-used.ensures.stands in
    said_now c.args.outside.now c.args.outside.now c.args.self c.feed.new.self c.args.piece.now c.in_ok-used.used c.in_ok-used.event feeds c.args.kept.now c.args.outside.now.desk c.requires.ready

pub returns-in_err-next-clause-steps : goal.returns-in_err-next-clause-steps
returns-in_err-next-clause-steps g c =
    let feeds = feeds_by c.is_enabled.result (is_enabled (mode_of (state_of c.args.self.state))) c.args.self.reader c.feed.new.self c.args.piece.now c.in_ok-used.used c.in_ok-used.event c.is_enabled.ensures
    c.in_ok-used.ensures.observed c.in_ok-used.ensures.stands in
    let failed = err_from_is_err_and c.from_residual-in_err-next.result c.from_residual-in_err-next.ensures.1 in
    rw (failed.1, failed.2)
    (Steps-broken c.args.outside.now c.answer_event-answer.new.outside c.args.self c.feed.new.self c.args.piece.now c.in_ok-used.used c.in_ok-used.event feeds c.args.kept.now c.args.kept.now c.in_err-next.field-0.0
    c.in_err-next.ensures.takes)

pub returns-clause-steps : goal.returns-clause-steps
returns-clause-steps g c =
    let feeds = feeds_by c.is_enabled.result (is_enabled (mode_of (state_of c.args.self.state))) c.args.self.reader c.feed.new.self c.args.piece.now c.in_ok-used.used c.in_ok-used.event c.is_enabled.ensures
    c.in_ok-used.ensures.observed c.in_ok-used.ensures.stands in
    rw c.advance_of.ensures
    (Steps-taken c.args.outside.now c.answer_event-answer.new.outside c.args.self c.feed.new.self c.args.piece.now c.in_ok-used.used c.in_ok-used.event feeds c.args.kept.now c.args.kept.now c.in_ok-next.next
    c.in_ok-next.ensures.takes)

pub returns-clause-used : goal.returns-clause-used
returns-clause-used g c =
    let feeds = feeds_by c.is_enabled.result (is_enabled (mode_of (state_of c.args.self.state))) c.args.self.reader c.feed.new.self c.args.piece.now c.in_ok-used.used c.in_ok-used.event c.is_enabled.ensures
    c.in_ok-used.ensures.observed c.in_ok-used.ensures.stands in
    rw c.advance_of.ensures
    (used_bound c.args.outside.now c.answer_event-answer.new.outside c.args.self c.feed.new.self c.args.piece.now c.in_ok-used.used c.in_ok-used.event feeds c.args.kept.now c.args.outside.now.desk c.requires.ready c.requires.some)

pub returns-clause-ready : goal.returns-clause-ready
returns-clause-ready g c =
    let feeds = feeds_by c.is_enabled.result (is_enabled (mode_of (state_of c.args.self.state))) c.args.self.reader c.feed.new.self c.args.piece.now c.in_ok-used.used c.in_ok-used.event c.is_enabled.ensures
    c.in_ok-used.ensures.observed c.in_ok-used.ensures.stands in
    rw c.advance_of.ensures
    (ready_after c.args.outside.now c.answer_event-answer.new.outside c.args.self c.feed.new.self c.args.piece.now c.in_ok-used.used c.in_ok-used.event feeds c.args.kept.now c.args.outside.now.desk c.in_ok-next.next c.requires.ready
    c.in_ok-next.ensures.takes)
