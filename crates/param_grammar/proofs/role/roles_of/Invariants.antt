use Rattle.std.proofs.Common.{length}
use Rattle.param_grammar.proofs.RunLemmas.{RolesGo}
use Rattle.param_grammar.proofs.role.roles_of.Given as goal

abbrev pub invariant-loop-first : goal.invariant-loop-first
invariant-loop-first l = RolesGo l.text l.named.lower.now l.named.places.now l.order l.roles.items l.rest

abbrev pub decreases-loop-first : goal.decreases-loop-first
decreases-loop-first l = length l.rest
