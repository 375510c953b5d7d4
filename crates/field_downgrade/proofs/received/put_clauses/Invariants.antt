use Rattle.std.proofs.Common.{length}
use Rattle.field_tokens.specs.Lexemes.{values_of}
use Rattle.field_downgrade.proofs.ReceivedReading.{WalksClauses}
use Rattle.field_downgrade.proofs.received.put_clauses.Given as goal

abbrev pub invariant-loop-word : goal.invariant-loop-word
invariant-loop-word l = WalksClauses (values_of l.tokens) (values_of l.rest) l.fn.made l.made

abbrev pub decreases-loop-word : goal.decreases-loop-word
decreases-loop-word l = length (values_of l.rest)
