use Rattle.std.proofs.Common.{◌≡◌, ℕ, length, get_or, None}
use Rattle.param_grammar.proofs.joining.empty_slots.Given as goal

abbrev pub invariant-loop : goal.invariant-loop
invariant-loop l = (length l.slots.items ≡ l.counter) × ((n : ℕ) → get_or l.slots.items n None ≡ None)
