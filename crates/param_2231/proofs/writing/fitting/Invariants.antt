use Rattle.std.proofs.Common.{◌≡◌}
use Rattle.param_2231.proofs.PartLemmas.{FitsTo}
use Rattle.param_2231.proofs.writing.fitting.Given as goal

-- the octets so far are spelled by so few octets
abbrev pub invariant-loop-octet : goal.invariant-loop-octet
invariant-loop-octet l = (l.fits ≡ l.octet-index) × FitsTo l.octets l.octet-index l.spelled
