use Rattle.imap_words.specs.Dates.{IsTwoDigits}
use Rattle.imap_words.proofs.Going.{begins, passes_on}
use Rattle.imap_words.proofs.DateSteps.{after, stops_in, by_call, digit_viable}
use Rattle.imap_words.proofs.dates.two_digits.Goals as goal

pub returns-in_err-text : goal.returns-in_err-text
returns-in_err-text c =
    passes_on _ _ c.from_residual.result _ c.from_residual.ensures.1 (stops_in _ (begins IsTwoDigits c.args.text.now) digit_viable c.in_err-text.ensures)

pub returns : goal.returns
returns c =
    let t1 = after (begins IsTwoDigits c.args.text.now) c.in_ok-text.ensures in
    by_call (λ x. x.0) (λ x. x.1.now) c.digit-2.result t1 c.digit-2.ensures
