-- What is held once a thing is put or given back.
use Rattle.std.proofs.Common.{◌≡◌, ◌≢◌, ℕ, zero, suc, ◌⊎◌, inl, inr, List, ◌∷◌, Contains, arith, refl, sym, ap}
use Rattle.std.proofs.lemmas.List.Elements.{Contains-append_left, Contains-append_right, Contains-append_cases}
use Rattle.block_pool.specs.Pool.{Held, PoolState, HoldsUnder, Puts, TakesBack}

Contains_head : (one : Held) (rest : List Held) → Contains (one ∷ rest) one
Contains_head one rest = (0, omega arith, refl)

Contains_tail : (first : Held) (rest : List Held) (one : Held) → Contains rest one → Contains (first ∷ rest) one
Contains_tail first rest one (k, below, is) = (suc k, omega arith, is)

Contains_cases : (first : Held) (rest : List Held) (one : Held) → Contains (first ∷ rest) one → (first ≡ one) ⊎ Contains rest one
Contains_cases first rest one (zero, below, is) = inl is
Contains_cases first rest one (suc k, below, is) = inr (k, omega arith, is)

pub put_holds : (old new : PoolState) (id : ℕ) (octets : List ℕ) → Puts old new id octets → HoldsUnder new id octets
put_holds old new id octets puts =
    rw puts.becomes (Contains-append_right puts.front _ _ (Contains_head (record { id = id; octets = octets }) puts.back))

pub put_keeps : (old new : PoolState) (id : ℕ) (octets : List ℕ) → Puts old new id octets → (other : ℕ) (held : List ℕ) → HoldsUnder old other held → HoldsUnder new other held
put_keeps old new id octets puts other held holds =
    rw puts.becomes (
    elim (Contains-append_cases puts.front puts.back _ (rw puts.was at holds)) [
      | inl before ↦ Contains-append_left puts.front _ _ before
      | inr following ↦ Contains-append_right puts.front _ _ (Contains_tail (record { id = id; octets = octets }) puts.back _ following)
    ]
    )

pub give_keeps : (old new : PoolState) (id : ℕ) → TakesBack old new id → (other : ℕ) → other ≢ id → (held : List ℕ) → HoldsUnder old other held → HoldsUnder new other held
give_keeps old new id (octets, puts) other differ held holds =
    rw puts.was (
    elim (Contains-append_cases puts.front _ _ (rw puts.becomes at holds)) [
      | inl before ↦ Contains-append_left puts.front puts.back _ before
      | inr following ↦ elim (Contains_cases (record { id = id; octets = octets }) puts.back _ following) [
        | inl same ↦ absurd (differ (sym (ap (λ (one : Held). one.id) same)))
        | inr further ↦ Contains-append_right puts.front puts.back _ further
      ]
    ]
    )
