use Rattle.surrogate_rope.proofs.OwnSurrogates.{own_surrogate, no_other_surrogate}
use Rattle.surrogate_rope.proofs.laws.surrogates_are_their_own.Goals as goal

pub returns-clause-own : goal.returns-clause-own
returns-clause-own c = λ msg made has. own_surrogate msg made has.surrogate

pub returns-clause-no_other : goal.returns-clause-no_other
returns-clause-no_other c = no_other_surrogate
