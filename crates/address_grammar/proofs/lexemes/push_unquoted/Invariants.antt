use Rattle.std.proofs.Common.{◌≡◌, ◌++◌, false, drop}
use Rattle.address_grammar.specs.private.Lexemes.{unquoted}
use Rattle.address_grammar.proofs.lexemes.push_unquoted.Given as goal

abbrev pub invariant-loop-octet : goal.invariant-loop-octet
invariant-loop-octet l = l.made ++ unquoted l.is_quoted (drop l.octet-index l.octets) ≡ l.fn.made ++ unquoted false l.octets
