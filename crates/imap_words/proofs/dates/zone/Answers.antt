use Rattle.imap_words.specs.Dates.{IsZone}
use Rattle.imap_words.proofs.DateSteps.{by_call, open_viable, zone_viable, after_plus, after_minus, sign_fails}
use Rattle.imap_words.proofs.dates.zone.Goals as goal

pub returns-in_default : goal.returns-in_default
returns-in_default c = open_viable IsZone c.args.text.now c.in_default.ensures.cases zone_viable

pub returns-then-first-eq43 : goal.returns-then-first-eq43
returns-then-first-eq43 c = by_call (λ x. x.0) (λ x. x.1.now) c.four_digits.result (after_plus c.args.text.now _ _ c.in-Some.ensures.cases.0 c.if-first-eq43.true) c.four_digits.ensures

pub returns-then-first-eq45 : goal.returns-then-first-eq45
returns-then-first-eq45 c =
    by_call (λ x. x.0) (λ x. x.1.now) c.four_digits-then-first-eq45.result (after_minus c.args.text.now _ _ c.in-Some.ensures.cases.0 c.if-first-eq45.true) c.four_digits-then-first-eq45.ensures

pub returns : goal.returns
returns c = sign_fails c.args.text.now _ _ c.in-Some.ensures.cases.0 c.if-first-eq43.false c.if-first-eq45.false
