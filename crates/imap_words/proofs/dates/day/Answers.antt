use Rattle.imap_words.specs.Dates.{IsDateDayFixed}
use Rattle.imap_words.proofs.DateSteps.{by_call, open_viable, day_viable, after_space, without_space}
use Rattle.imap_words.proofs.dates.day.Goals as goal

pub returns-in_default : goal.returns-in_default
returns-in_default c = open_viable IsDateDayFixed c.args.text.now c.in_default.ensures.cases day_viable

pub returns-then-first-eq32 : goal.returns-then-first-eq32
returns-then-first-eq32 c = by_call (λ x. x.0) (λ x. x.1.now) c.digit.result (after_space c.args.text.now _ _ c.in-Some.ensures.cases.0 c.if-first-eq32.true) c.digit.ensures

pub returns : goal.returns
returns c = by_call (λ x. x.0) (λ x. x.1.now) c.two_digits.result (without_space c.args.text.now _ _ c.in-Some.ensures.cases.0 c.if-first-eq32.false) c.two_digits.ensures
