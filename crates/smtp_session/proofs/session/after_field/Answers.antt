use Rattle.smtp_session.proofs.KeptLemmas.{marked_field}
use Rattle.smtp_session.proofs.session.after_field.Goals as goal

pub returns-clause-mark : goal.returns-clause-mark
returns-clause-mark c other has =
    rw c.in_ok-push_slice.ensures.ok (marked_field c.args.field c.args.octets.now c.args.mark c.mark_after-mark.result (rw c.as_slice.ensures at c.mark_after-mark.ensures) other has)
