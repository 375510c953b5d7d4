use Rattle.std.proofs.Common.{sym, ◌∙◌}
use Rattle.std.proofs.lemmas.Bool.{both_ways}
use Rattle.imap_words.proofs.QuotedSteps.{special_more, special_fails, special_says}
use Rattle.imap_words.proofs.strings.special.Goals as goal

pub returns-in_default : goal.returns-in_default
returns-in_default c = special_more c.args.text.now c.in_default.ensures.cases

pub returns-then-not-is_quoted_special : goal.returns-then-not-is_quoted_special
returns-then-not-is_quoted_special c = special_fails c.args.text.now _ _ c.in-Some.ensures.cases.0 (λ is. both_ways _ c.if-not-is_quoted_special.true (c.is_quoted_special.ensures ∙ is))

pub returns : goal.returns
returns c = special_says c.args.text.now _ _ _ _ c.in-Some.ensures.cases.0 (sym c.is_quoted_special.ensures ∙ c.if-not-is_quoted_special.false) c.in-Ok.ensures.ok
