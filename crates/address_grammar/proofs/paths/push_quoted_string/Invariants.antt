use Rattle.std.proofs.Common.{◌≡◌, ◌++◌, ◌∷◌, drop}
use Rattle.std.specs.List.{flat_map}
use Rattle.address_grammar.specs.Addresses.{quoted_octet}
use Rattle.address_grammar.proofs.paths.push_quoted_string.Given as goal

abbrev pub invariant-loop-octet : goal.invariant-loop-octet
invariant-loop-octet l = l.made ++ flat_map quoted_octet (drop l.octet-index l.content) ≡ l.fn.made ++ 34 ∷ flat_map quoted_octet l.content
