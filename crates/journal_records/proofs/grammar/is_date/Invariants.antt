use Rattle.journal_records.proofs.GrammarLemmas.{FitsBelow}
use Rattle.journal_records.proofs.grammar.is_date.Given as goal

abbrev pub invariant-loop-at : goal.invariant-loop-at
invariant-loop-at l = FitsBelow l.date l.at
