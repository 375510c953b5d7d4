use Rattle.smtp_session.proofs.KeptLemmas.{return_path-other}
use Rattle.smtp_session.proofs.session.kept_octets.Goals as goal

pub returns-clause-marks : goal.returns-clause-marks
returns-clause-marks c other has =
    let remote = c.in_ok-remote.ensures.mark other has in
    (c.in_ok-local.ensures.mark (rw c.in_ok-field.ensures (return_path-other c.args.path.now c.requires)) (rw c.as_slice.ensures remote), remote)
