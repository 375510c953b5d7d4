-- How many octets a rope gives.
use Rattle.std.proofs.Common.{◌≡◌, ℕ, List, length}
use Rattle.surrogate_rope.specs.declared.shown.Shown.{Shown}
use Rattle.surrogate_rope.specs.declared.shown.Shown.TheVariants.{Rope}
use Rattle.surrogate_rope.specs.Ropes.{RopeValue, size_of, octets_of, IsRopeOf}
use Rattle.surrogate_rope.specs.Served.{IsShownOf, shown_octets}
use Rattle.surrogate_rope.proofs.PieceLemmas.{joined_length}

-- the size of a rope's pieces is that of the octets that they give
pub rope_size : (msg : List ℕ) (rope : RopeValue) → IsRopeOf msg rope → length (octets_of msg rope) ≡ size_of rope.pieces
rope_size msg rope is = joined_length msg rope.pieces is.within

-- the same of what is shown
pub shown_size : (msg : List ℕ) (shown : Shown) (rope : RopeValue) → IsShownOf msg shown → shown ≡ Rope rope → length (shown_octets msg shown) ≡ size_of rope.pieces
shown_size msg shown rope is rope_is = rw rope_is (rope_size msg rope (rw rope_is at is))
