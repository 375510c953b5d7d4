use Rattle.std.proofs.Common.{sym, ◌∙◌}
use Rattle.imap_words.specs.Dates.{IsDigit}
use Rattle.imap_words.proofs.DateSteps.{open_viable, digit_viable, digit_fails}
use Rattle.imap_words.proofs.dates.digit.Goals as goal

pub returns-in_default : goal.returns-in_default
returns-in_default c = open_viable IsDigit c.args.text.now c.in_default.ensures.cases digit_viable

pub returns : goal.returns
returns c = digit_fails c.args.text.now _ _ c.in-Some.ensures.cases.0 (sym c.is_digit.ensures ∙ c.if-is_digit.false)
