use Rattle.std.proofs.Common.{length}
use Rattle.field_tokens.proofs.TokenLists.{ReadsSpans}
use Rattle.field_tokens.proofs.reading.tokens.Given as goal

abbrev pub invariant-loop-rest : goal.invariant-loop-rest
invariant-loop-rest l = ReadsSpans l.style l.text l.tokens.items l.rest

abbrev pub decreases-loop-rest : goal.decreases-loop-rest
decreases-loop-rest l = length l.rest
