use Rattle.std.proofs.Common.{subst, take, drop}
use Rattle.std.proofs.lemmas.Result.{err_from_is_err_and}
use Rattle.mail_wire.specs.declared.outside.Fault.TheVariants as fault
use Rattle.surrogate_rope.specs.Served.{shown_octets}
use Rattle.session_core.specs.Desks.{stored_octets}
use Rattle.session_core.specs.Doing.{Replies}
use Rattle.session_core.specs.Keeps.{fault_of}
use Rattle.session_core.specs.declared.desk.Desk.{Desk}
use Rattle.imap_session.specs.Items.{span_parts}
use Rattle.imap_session.specs.Machine.{reply}
use Rattle.imap_session.specs.Replies.{part_octets}
use Rattle.imap_session.specs.private.Asking.{name_of}
use Rattle.imap_session.proofs.PendingLemmas.{Carries-stop}
use Rattle.imap_session.proofs.RangeLemmas.{Carries-headed, Carries-literal}
use Rattle.imap_session.proofs.sections.give_span.Goals as goal

pub returns-in_err-push_head-clause-carries : goal.returns-in_err-push_head-clause-carries
returns-in_err-push_head-clause-carries g c = λ oracles are store alike.
    let failed = err_from_is_err_and c.from_residual.result c.from_residual.ensures.1 in
    rw (failed.1, failed.2) (Carries-stop (part_octets oracles) c.args.outside.now fault.Memory c.args.pending.now c.push_head.new.pending
    (reply (span_parts g.V.View.mode store c.args.one.now (name_of c.args.asked.now) c.args.span)) (λ bad. cc))

pub returns-in_err-give_pending-clause-carries : goal.returns-in_err-give_pending-clause-carries
returns-in_err-give_pending-clause-carries g c = λ oracles are store alike.
    let failed = err_from_is_err_and c.from_residual-in_err-give_pending.result c.from_residual-in_err-give_pending.ensures.1 in
    let msg = stored_octets c.args.outside.now.desk.store c.args.one.now.id in
    rw (failed.1, failed.2) (Carries-headed oracles g.V.View.mode store c.args.one.now (name_of c.args.asked.now) msg c.args.span c.args.outside.now c.give_pending.new.outside
    c.in_err-give_pending.field-0.0 c.args.pending.now c.push_head.new.pending c.give_pending.new.pending c.give_pending.new.pending (alike.octets c.args.one.now.id) c.in_ok-push_head.ensures
    (c.in_err-give_pending.ensures.carries oracles))

pub returns-clause-carries : goal.returns-clause-carries
returns-clause-carries g c = λ oracles are store alike.
    let span = c.args.span in
    let msg = stored_octets c.args.outside.now.desk.store c.args.one.now.id in
    let given = rw c.in_ok-give_pending.ensures.nothing at (c.in_ok-give_pending.ensures.carries oracles) in
    let replies = subst (λ (desk : Desk). Replies c.give_pending.new.outside c.give_range.new.self (fault_of c.give_range.result) (take span.len (drop span.at (shown_octets (stored_octets desk.store c.args.one.now.id) c.args.shown.now))))
    c.in_ok-give_pending.ensures.desk c.give_range.ensures.replies in
    rw c.in_ok-give_pending.ensures.nothing (Carries-literal oracles are g.V.View.mode store c.args.one.now (name_of c.args.asked.now) msg c.args.shown.now span
    c.args.outside.now c.give_pending.new.outside c.give_range.new.self (fault_of c.give_range.result) c.args.pending.now c.push_head.new.pending
    (alike.octets c.args.one.now.id) c.requires.shown c.in_ok-push_head.ensures given replies)
