use Rattle.std.proofs.lemmas.Result.{err_from_is_err_and}
use Rattle.mail_wire.specs.declared.outside.Fault.TheVariants as fault
use Rattle.imap_session.specs.Machine.{reply}
use Rattle.imap_session.specs.Replies.{part_octets}
use Rattle.imap_session.specs.private.Asking.{asked_parts}
use Rattle.imap_session.proofs.PendingLemmas.{Carries-stop}
use Rattle.imap_session.proofs.sections.put_section.Goals as goal

pub returns-in_err-put_chosen-in-Fields-clause-carries : goal.returns-in_err-put_chosen-in-Fields-clause-carries
returns-in_err-put_chosen-in-Fields-clause-carries g c = λ oracles are store alike.
    let failed = err_from_is_err_and c.from_residual.result c.from_residual.ensures.1 in
    rw (failed.1, failed.2) (Carries-stop (part_octets oracles) c.args.outside.now fault.Memory c.args.pending.now c.put_chosen.new.pending
    (reply (asked_parts oracles g.V.View.mode store c.args.one.now c.args.asked.now)) (λ bad. cc))
