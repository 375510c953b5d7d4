use Rattle.std.proofs.Common.{◌≡◌, map}
use Rattle.surrogate_cache.proofs.keeping.ids_of.Given as goal

abbrev pub invariant-loop-id : goal.invariant-loop-id
invariant-loop-id l = l.ids.items ≡ map (λ e. e.0.now) l.yielded
