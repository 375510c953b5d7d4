use Rattle.std.proofs.Common.{arith}
use Rattle.std.proofs.lemmas.Bool.Decides.{nat_tests}
use Rattle.imap_words.proofs.Going.{passes_on}
use Rattle.imap_words.proofs.NameSteps.{positive_stops, positive_reads, zero_open, zero_stops}
use Rattle.imap_words.proofs.strings.positive.Goals as goal

pub returns-in_err-value : goal.returns-in_err-value
returns-in_err-value c = passes_on _ _ c.from_residual.result _ c.from_residual.ensures.1 (positive_stops c.args.text.now _ c.in_err-value.ensures)

pub returns-then-is_empty : goal.returns-then-is_empty
returns-then-is_empty c = zero_open c.args.text.now _ _ c.in_ok-value.ensures c.if-value-eq0.true (grind (arith, nat_tests, c.is_empty.ensures, c.if-is_empty.true))

pub returns-then-value-eq0 : goal.returns-then-value-eq0
returns-then-value-eq0 c = zero_stops c.args.text.now _ _ c.in_ok-value.ensures c.if-value-eq0.true (λ none. grind (arith, nat_tests, c.is_empty.ensures, c.if-is_empty.false, none))

pub returns : goal.returns
returns c = positive_reads c.args.text.now _ _ c.in_ok-value.ensures c.if-value-eq0.false
