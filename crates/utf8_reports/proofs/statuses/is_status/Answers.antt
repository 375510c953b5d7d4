use Rattle.utf8_reports.proofs.DigitLemmas.{class_first, subject_next, status_of, status_detail}
use Rattle.utf8_reports.proofs.statuses.is_status.Goals as goal

pub returns-in_default : goal.returns-in_default
returns-in_default c = (λ t. cc, λ is. absurd (c.in_default.ensures.none _ (class_first c.args.text.now is)))

pub returns-in_default-after_number : goal.returns-in_default-after_number
returns-in_default-after_number c = (λ t. cc, λ is. absurd (c.in_default-after_number.ensures.none _ (subject_next c.args.text.now c.in-Some.after_class.now c.in-Some.ensures.found is)))

pub returns : goal.returns
returns c =
    let first = c.in-Some.ensures.found in
    let next = c.in-Some-after_number.ensures.found in
    (λ t. status_of c.args.text.now _ _ first next (c.is_decimal.ensures.0 t), λ is. c.is_decimal.ensures.1 (status_detail c.args.text.now _ _ first next is))
