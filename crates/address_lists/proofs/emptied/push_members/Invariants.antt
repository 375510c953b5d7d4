use Rattle.std.proofs.Common.{length}
use Rattle.field_tokens.specs.Lexemes.{values_of}
use Rattle.address_lists.proofs.UnitsOnto.{TakesSoFar}
use Rattle.address_lists.proofs.emptied.push_members.Given as goal

abbrev pub invariant-loop-member : goal.invariant-loop-member
invariant-loop-member l = TakesSoFar l.fn.units l.units l.fn.made l.made (values_of l.lexemes) (values_of l.rest)

abbrev pub decreases-loop-member : goal.decreases-loop-member
decreases-loop-member l = length (values_of l.rest)
