use Rattle.mail_command.proofs.OutcomeLemmas.{outcome_once}
use Rattle.mail_command.proofs.laws.outcomes_are_one.Goals as goal

pub returns : goal.returns
returns c task octets given others status other one two =
    let same = outcome_once task octets status other given others one two in
    (same.status_is, same.given_is)
