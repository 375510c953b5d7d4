use Rattle.std.proofs.Common.{◌≡◌, length, take}
use Rattle.param_grammar.specs.private.Roles.{ArePut}
use Rattle.param_grammar.proofs.role.put_roles.Given as goal

abbrev pub invariant-loop-number : goal.invariant-loop-number
invariant-loop-number l = (length l.roles.items ≡ length l.initial.roles.items) × ArePut l.named.places.now l.name (take l.number-index l.run) l.initial.roles.items l.roles.items
