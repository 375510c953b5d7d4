use Rattle.std.proofs.Common.{arith}
use Rattle.param_grammar.proofs.SlotLemmas.{HoldBelow-empty, empty_slots}
use Rattle.param_grammar.proofs.joining.empty_slots.Goals as goal

pub returns-clause-empty : goal.returns-clause-empty
returns-clause-empty c piece = empty_slots piece c.args.count c.loop.slots.items (let len = c.loop.invariant.0 in omega (arith, len)) c.loop.invariant.1

pub returns-clause-within : goal.returns-clause-within
returns-clause-within c bound = HoldBelow-empty bound c.loop.slots.items c.loop.invariant.1
