use Rattle.std.proofs.Common.{length}
use Rattle.field_tokens.specs.Lexemes.{values_of}
use Rattle.address_lists.proofs.ServedLists.{ServedSoFar}
use Rattle.address_lists.proofs.members.are_served.Given as goal

abbrev pub invariant-loop-member : goal.invariant-loop-member
invariant-loop-member l = ServedSoFar (values_of l.lexemes) l.are (values_of l.rest)

abbrev pub decreases-loop-member : goal.decreases-loop-member
decreases-loop-member l = length (values_of l.rest)
