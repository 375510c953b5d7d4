use Rattle.std.proofs.Common.{◌≡◌, ◌++◌, drop}
use Rattle.std.specs.List.{flat_map}
use Rattle.dsn_terms.specs.Xtexts.{shortest_unit}
use Rattle.dsn_terms.proofs.xtext.push_xtext.Given as goal

abbrev pub invariant-loop-octet : goal.invariant-loop-octet
invariant-loop-octet l = l.made ++ flat_map shortest_unit (drop l.octet-index l.octets) ≡ l.fn.made ++ flat_map shortest_unit l.octets
