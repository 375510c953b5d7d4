use Rattle.std.proofs.Common.{length}
use Rattle.field_tokens.proofs.MarkLemmas.{CountsTokens}
use Rattle.field_tokens.proofs.lexemes.count_tokens.Given as goal

abbrev pub invariant-loop-rest : goal.invariant-loop-rest
invariant-loop-rest l = CountsTokens l.style l.text l.count l.rest

abbrev pub decreases-loop-rest : goal.decreases-loop-rest
decreases-loop-rest l = length l.rest
