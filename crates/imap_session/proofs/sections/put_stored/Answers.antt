use Rattle.std.proofs.Common.{subst, take, drop}
use Rattle.std.proofs.lemmas.Result.{err_from_is_err_and}
use Rattle.mail_wire.specs.declared.outside.Fault.TheVariants as fault
use Rattle.session_core.specs.Desks.{stored_octets}
use Rattle.session_core.specs.Doing.{Replies}
use Rattle.session_core.specs.Keeps.{fault_of}
use Rattle.session_core.specs.declared.desk.Desk.{Desk}
use Rattle.imap_session.specs.Machine.{reply}
use Rattle.imap_session.specs.Replies.{part_octets}
use Rattle.imap_session.specs.private.Asking.{asked_parts}
use Rattle.imap_session.proofs.PendingLemmas.{Carries-stop}
use Rattle.imap_session.proofs.RangeLemmas.{Carries-stored, Carries-unstored, octets_in_store, spans_all}
use Rattle.imap_session.proofs.sections.put_stored.Goals as goal

pub returns-in_err-push_head-clause-carries : goal.returns-in_err-push_head-clause-carries
returns-in_err-push_head-clause-carries g c = λ oracles are store alike.
    let failed = err_from_is_err_and c.from_residual.result c.from_residual.ensures.1 in
    rw (failed.1, failed.2) (Carries-stop (part_octets oracles) c.args.outside.now fault.Memory c.args.pending.now c.push_head.new.pending
    (reply (asked_parts oracles g.V.View.mode store c.args.one.now c.args.asked.now)) (λ bad. cc))

pub returns-in_err-give_pending-clause-carries : goal.returns-in_err-give_pending-clause-carries
returns-in_err-give_pending-clause-carries g c = λ oracles are store alike.
    let failed = err_from_is_err_and c.from_residual-in_err-give_pending.result c.from_residual-in_err-give_pending.ensures.1 in
    let msg = stored_octets c.args.outside.now.desk.store c.args.one.now.id in
    let told = octets_in_store c.args.outside.now.desk.store c.args.one.now.id c.octets.result.now (rw c.store.ensures at c.octets.ensures.octets) c.octets.ensures.stored in
    rw (failed.1, failed.2) (Carries-unstored oracles are g.V.View.mode store c.args.one.now c.args.asked.now msg c.partial_span-span.result c.args.outside.now c.give_pending.new.outside
    c.in_err-give_pending.field-0.0 c.args.pending.now c.push_head.new.pending c.give_pending.new.pending c.give_pending.new.pending c.requires.stored (alike.octets c.args.one.now.id) told.1
    (spans_all c.args.asked.now msg c.octets.result.now c.partial_span-span.result told.0 c.partial_span-span.ensures) c.in_ok-push_head.ensures
    (c.in_err-give_pending.ensures.carries oracles))

pub returns-clause-carries : goal.returns-clause-carries
returns-clause-carries g c = λ oracles are store alike.
    let span = c.partial_span-span.result in
    let msg = stored_octets c.args.outside.now.desk.store c.args.one.now.id in
    let told = octets_in_store c.args.outside.now.desk.store c.args.one.now.id c.octets.result.now (rw c.store.ensures at c.octets.ensures.octets) c.octets.ensures.stored in
    let given = rw c.in_ok-give_pending.ensures.nothing at (c.in_ok-give_pending.ensures.carries oracles) in
    let replies = subst (λ (desk : Desk). Replies c.give_pending.new.outside c.give_stored.new.self (fault_of c.give_stored.result) (take span.len (drop span.at (stored_octets desk.store c.args.one.now.id))))
    c.in_ok-give_pending.ensures.desk c.give_stored.ensures.replies in
    rw c.in_ok-give_pending.ensures.nothing (Carries-stored oracles are g.V.View.mode store c.args.one.now c.args.asked.now msg span
    c.args.outside.now c.give_pending.new.outside c.give_stored.new.self (fault_of c.give_stored.result) c.args.pending.now c.push_head.new.pending c.requires.stored
    (alike.octets c.args.one.now.id) told.1 (spans_all c.args.asked.now msg c.octets.result.now span told.0 c.partial_span-span.ensures) c.in_ok-push_head.ensures given replies)
