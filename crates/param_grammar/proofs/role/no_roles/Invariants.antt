use Rattle.std.proofs.Common.{◌≡◌, length}
use Rattle.param_grammar.proofs.role.no_roles.Given as goal

abbrev pub invariant-loop : goal.invariant-loop
invariant-loop l = length l.roles.items ≡ l.counter
