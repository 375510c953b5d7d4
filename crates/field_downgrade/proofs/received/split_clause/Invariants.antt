use Rattle.std.proofs.Common.{length}
use Rattle.field_tokens.specs.Lexemes.{values_of}
use Rattle.field_downgrade.specs.Received.{starts_clause}
use Rattle.field_downgrade.proofs.ReceivedReading.{PassesNone}
use Rattle.field_downgrade.proofs.received.split_clause.Given as goal

abbrev pub invariant-loop-token : goal.invariant-loop-token
invariant-loop-token l = PassesNone starts_clause (values_of l.tokens) (values_of l.rest)

abbrev pub decreases-loop-token : goal.decreases-loop-token
decreases-loop-token l = length (values_of l.rest)
