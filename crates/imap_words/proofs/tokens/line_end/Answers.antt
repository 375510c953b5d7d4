use Rattle.imap_words.specs.Reading.{never}
use Rattle.imap_words.proofs.Composing.{then_reads, then_stops, first_stops}
use Rattle.imap_words.proofs.TokenSteps.{octet_viable}
use Rattle.imap_words.proofs.Going.{never_avoids, passes_on}
use Rattle.imap_words.proofs.tokens.line_end.Goals as goal

pub returns-in_err-after_return-clause-reads : goal.returns-in_err-after_return-clause-reads
returns-in_err-after_return-clause-reads c = passes_on _ _ c.from_residual.result _ c.from_residual.ensures.1 (first_stops _ _ never never _ _ c.in_err-after_return.ensures (λ _. never_avoids _) (λ _. octet_viable 10))

pub returns-in_err-rest-clause-reads : goal.returns-in_err-rest-clause-reads
returns-in_err-rest-clause-reads c = passes_on _ _ c.from_residual-in_err-rest.result _ c.from_residual-in_err-rest.ensures.1 (then_stops _ _ _ never _ _ _ _ c.in_ok-after_return.ensures (λ _. never_avoids _) c.in_err-rest.ensures.reads)

pub returns-clause-reads : goal.returns-clause-reads
returns-clause-reads c = then_reads _ _ _ _ _ _ _ _ _ c.in_ok-after_return.ensures (λ _. never_avoids _) c.in_ok-rest.ensures.reads
