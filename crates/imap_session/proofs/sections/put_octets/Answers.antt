use Rattle.std.proofs.Common.{List, ◌∙◌, subst}
use Rattle.std.proofs.lemmas.Result.{err_from_is_err_and}
use Rattle.mail_wire.specs.declared.outside.Fault.TheVariants as fault
use Rattle.session_core.specs.Desks.{stored_octets}
use Rattle.session_core.specs.Keeps.{fault_of}
use Rattle.imap_session.specs.Machine.{reply}
use Rattle.imap_session.specs.Replies.{ReplyPart, part_octets}
use Rattle.imap_session.specs.private.Asking.{asked_parts, wanted_place}
use Rattle.imap_session.specs.private.Pending.{Carries}
use Rattle.imap_session.proofs.PendingLemmas.{Carries-stop}
use Rattle.imap_session.proofs.RangeLemmas.{Carries-nothing, octets_told, section_found}
use Rattle.imap_session.proofs.sections.put_octets.Goals as goal

pub returns-in_err-push_nil-clause-carries : goal.returns-in_err-push_nil-clause-carries
returns-in_err-push_nil-clause-carries g c = λ oracles are store alike.
    let failed = err_from_is_err_and c.from_residual.result c.from_residual.ensures.1 in
    rw (failed.1, failed.2) (Carries-stop (part_octets oracles) c.args.outside.now fault.Memory c.args.pending.now c.push_nil.new.pending
    (reply (asked_parts oracles g.V.View.mode store c.args.one.now c.args.asked.now)) (λ bad. cc))

pub returns-in_default-clause-carries : goal.returns-in_default-clause-carries
returns-in_default-clause-carries g c = λ oracles are store alike.
    let asked = c.args.asked.now in
    let msg = stored_octets c.args.outside.now.desk.store c.args.one.now.id in
    let found = section_found oracles are g.V.View.mode store c.args.one.now msg c.args.shown.now asked.path.now (wanted_place asked.wanted) c.find.result (alike.octets c.args.one.now.id) c.requires.shown c.find.ensures.found in
    Carries-nothing oracles g.V.View.mode store c.args.one.now asked c.args.outside.now c.args.pending.now c.push_nil.new.pending (found ∙ c.in_default.is) c.in_ok-push_nil.ensures

pub returns-clause-carries : goal.returns-clause-carries
returns-clause-carries g c = λ oracles are store alike.
    let asked = c.args.asked.now in
    let msg = stored_octets c.args.outside.now.desk.store c.args.one.now.id in
    let found = section_found oracles are g.V.View.mode store c.args.one.now msg c.args.shown.now asked.path.now (wanted_place asked.wanted) c.find.result (alike.octets c.args.one.now.id) c.requires.shown c.find.ensures.found in
    subst (λ (parts : List ReplyPart). Carries (part_octets oracles) c.args.outside.now c.give_span.new.outside (fault_of c.give_span.result) c.args.pending.now c.give_span.new.pending (reply parts))
    (octets_told oracles g.V.View.mode store c.args.one.now asked c.requires.octets.0 c.in-Some.span c.partial_span-span.result c.requires.octets.1 (found ∙ c.in-Some.is) c.partial_span-span.ensures)
    (c.give_span.ensures.carries oracles are store alike)
