use Rattle.std.proofs.Common.{length}
use Rattle.dsn_terms.proofs.XtextUnits.{HasRead}
use Rattle.dsn_terms.proofs.xtext.read_octets.Given as goal

-- the octets so far are those of the text before rest
abbrev pub invariant-loop-rest : goal.invariant-loop-rest
invariant-loop-rest l = HasRead l.text l.octets l.rest

abbrev pub decreases-loop-rest : goal.decreases-loop-rest
decreases-loop-rest l = length l.rest
