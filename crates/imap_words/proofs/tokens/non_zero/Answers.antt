use Rattle.imap_words.proofs.TokenSteps.{non_zero_more, zero_fails, non_zero_reads, non_zero_stops}
use Rattle.imap_words.proofs.Going.{passes_on}
use Rattle.imap_words.proofs.tokens.non_zero.Goals as goal

pub returns-in_default : goal.returns-in_default
returns-in_default c = non_zero_more c.args.text.now c.in_default.ensures.cases

pub returns-then-first-eq48 : goal.returns-then-first-eq48
returns-then-first-eq48 c = zero_fails c.args.text.now _ _ c.in-Some.ensures.cases.0 c.if-first-eq48.true

pub returns-in_err-value : goal.returns-in_err-value
returns-in_err-value c =
    passes_on _ _ c.from_residual.result _ c.from_residual.ensures.1 (non_zero_stops c.args.text.now _ _ _ c.in-Some.ensures.cases.0 c.if-first-eq48.false c.in_err-value.ensures)

pub returns : goal.returns
returns c = non_zero_reads c.args.text.now _ _ _ _ c.in-Some.ensures.cases.0 c.if-first-eq48.false c.in_ok-value.ensures
