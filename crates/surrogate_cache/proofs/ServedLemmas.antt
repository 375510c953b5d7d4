-- What is served of a message.
use Rattle.std.proofs.Common.{◌≡◌, ℕ, List, [], sym, ◌∙◌, inl, inr}
use Rattle.surrogate_rope.specs.Layout.{HasSurrogate}
use Rattle.surrogate_cache.specs.Served.{Mode, legacy, enabled, IsServed, GivesSurrogates, served_by}
use Rattle.mime_tree.proofs.DecidingTrees.{decide_tree}
use Rattle.surrogate_rope.proofs.AllSurrogates.{some_surrogate}
use Rattle.surrogate_rope.proofs.SurrogateBlocks.{one_surrogate}

pub IsServed-once : (mode : Mode) (msg shown other : List ℕ) → IsServed mode msg shown → IsServed mode msg other → shown ≡ other
IsServed-once legacy msg shown other a b = one_surrogate msg shown other a b
IsServed-once enabled msg shown other a b = a ∙ sym b

-- whatever is the surrogate of a message is this
surrogate_of : (msg : List ℕ) → (made : List ℕ) × ((other : List ℕ) → HasSurrogate msg other → other ≡ made)
surrogate_of msg = elim (decide_tree msg) [
  | inr none ↦ ([], λ other is. absurd (none is.entities is.tree))
  | inl found ↦
      let made = some_surrogate msg found.0 found.1 in
      (made.0, λ other is. one_surrogate msg other made.0 is made.1)
]

pub surrogates_given : (surrogate : List ℕ → List ℕ) × GivesSurrogates surrogate
surrogates_given = (λ msg. (surrogate_of msg).0, λ msg. (surrogate_of msg).1)

-- what is served is what a function that gives surrogates makes of it
pub IsServed-by : (surrogate : List ℕ → List ℕ) → GivesSurrogates surrogate → (mode : Mode) (msg shown : List ℕ) → IsServed mode msg shown → shown ≡ served_by surrogate mode msg
IsServed-by surrogate gives legacy msg shown is = gives msg shown is
IsServed-by surrogate gives enabled msg shown is = is
