use Rattle.surrogate_rope.proofs.SameOpenings.{same_openings}
use Rattle.surrogate_rope.proofs.laws.surrogates_open_alike.Goals as goal

pub returns : goal.returns
returns c = same_openings
