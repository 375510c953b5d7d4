use Rattle.std.proofs.Common.{◌≡◌, ◌++◌, drop}
use Rattle.field_tokens.specs.Squeezed.{run_octets}
use Rattle.param_grammar.proofs.tokens.run_octets.Given as goal

abbrev pub invariant-loop-token : goal.invariant-loop-token
invariant-loop-token l = l.made ++ run_octets l.text (drop l.token-index l.tokens) ≡ run_octets l.text l.tokens
