-- What is held at a place, as things are put and given back at others.
use Rattle.std.proofs.Common.{◌≡◌, ◌≢◌, ℕ, zero, suc, List, [], ◌∷◌, ◌++◌, Bool, if◌then◌else◌, nat_eq, Contains, AllPairs, arith, refl, sym, ap, ◌∙◌, inl, inr}
use Rattle.std.proofs.lemmas.Bool.{ne_eqb, eq-eqb}
use Rattle.std.proofs.lemmas.Bool.Decides.{eqb_tells}
use Rattle.std.proofs.lemmas.List.Elements.{Contains-append_left, Contains-append_right, Contains-append_cases}
use Rattle.block_pool.specs.Pool.{Held, PoolState, HoldsUnder, IsHeldUnder, Puts}
use Rattle.surrogate_cache.specs.private.Kept.{octets_at}

-- beside a thing, all others are held as without it
pub octets_at-beside : (front back : List Held) (x : Held) (place : ℕ) → place ≢ x.id → octets_at (front ++ x ∷ back) place ≡ octets_at (front ++ back) place
octets_at-beside [] back x place differ = ap (λ (b : Bool). if b then x.octets else octets_at back place) (ne_eqb place x.id differ)
octets_at-beside (one ∷ front) back x place differ = ap (λ (o : List ℕ). if nat_eq place one.id then one.octets else o) (octets_at-beside front back x place differ)

-- the first of the things has the place, or what is after it has
octets_at-first : (one : Held) (held : List Held) (place : ℕ) → place ≡ one.id → octets_at (one ∷ held) place ≡ one.octets
octets_at-first one held place same = ap (λ (b : Bool). if b then one.octets else octets_at held place) (eq-eqb place one.id same)

octets_at-following : (one : Held) (held : List Held) (place : ℕ) → place ≢ one.id → octets_at (one ∷ held) place ≡ octets_at held place
octets_at-following one held place differ = ap (λ (b : Bool). if b then one.octets else octets_at held place) (ne_eqb place one.id differ)

there_first : (one : Held) (held : List Held) (place : ℕ) → place ≡ one.id → Contains (one ∷ held) (record { id = place; octets = octets_at (one ∷ held) place })
there_first one held place same =
    let is : one ≡ record { id = place; octets = octets_at (one ∷ held) place } = rw (octets_at-first one held place same, same) refl in
    (zero, omega arith, is)

there_after : (one : Held) (held : List Held) (place : ℕ) → place ≢ one.id → Contains held (record { id = place; octets = octets_at held place })
    → Contains (one ∷ held) (record { id = place; octets = octets_at (one ∷ held) place })
there_after one held place differ (k, below, is) = rw (octets_at-following one held place differ) (suc k, omega arith, is)

after_first : (one : Held) (held : List Held) (place : ℕ) (octets : List ℕ) → place ≢ one.id → Contains (one ∷ held) (record { id = place; octets = octets })
    → Contains held (record { id = place; octets = octets })
after_first one held place octets differ (zero, below, is) = absurd (differ (sym (ap (λ (x : Held). x.id) is)))
after_first one held place octets differ (suc k, below, is) = (k, omega arith, is)

-- what is held at a live place is held
pub octets_at-live : (held : List Held) (place : ℕ) (octets : List ℕ) → Contains held (record { id = place; octets = octets })
    → Contains held (record { id = place; octets = octets_at held place })
octets_at-live [] place octets (k, below, is) = absurd (omega arith)
octets_at-live (one ∷ held) place octets within =
    elim (eqb_tells place one.id) [
      | inl same ↦ there_first one held place same.1
      | inr differ ↦ there_after one held place differ.1 (octets_at-live held place octets (after_first one held place octets differ.1 within))
    ]

-- where no two things have one id, what is held at a place is that alone
pub octets_at-distinct : (held : List Held) → AllPairs (λ (one other : Held). one.id ≢ other.id) held → (place : ℕ) (octets : List ℕ)
    → Contains held (record { id = place; octets = octets }) → octets ≡ octets_at held place
octets_at-distinct [] distinct place octets (k, below, is) = absurd (omega arith)
octets_at-distinct (one ∷ held) distinct place octets (zero, below, is) =
    sym (ap (λ (x : Held). x.octets) is) ∙ sym (octets_at-first one held place (sym (ap (λ (x : Held). x.id) is)))
octets_at-distinct (one ∷ held) distinct place octets (suc k, below, is) =
    let differ : place ≢ one.id = λ same. distinct 0 (suc k) (record { id = place; octets = octets }) (omega arith) below (sym same ∙ sym (ap (λ (x : Held). x.id) is)) in
    octets_at-distinct held (λ i j d less within. distinct (suc i) (suc j) d (omega arith) (omega arith)) place octets (k, omega arith, is)
    ∙ sym (octets_at-following one held place differ)

-- at the place of what was put, nothing else is held
pub once_put : (old new : PoolState) (place : ℕ) (octets other : List ℕ) → Puts old new place octets → (IsHeldUnder old place → ⊥)
    → HoldsUnder new place other → other ≡ octets
once_put old new place octets other puts fresh holds =
    elim (Contains-append_cases puts.front _ _ (rw puts.becomes at holds)) [
      | inl before ↦ absurd (fresh (other, rw puts.was (Contains-append_left puts.front puts.back _ before)))
      | inr following ↦ last old place octets other puts.front puts.back puts.was fresh following
    ]
  where
    last : (old : PoolState) (place : ℕ) (octets other : List ℕ) (front back : List Held) → old.held ≡ front ++ back → (IsHeldUnder old place → ⊥)
        → Contains (record { id = place; octets = octets } ∷ back) (record { id = place; octets = other }) → other ≡ octets
    last old place octets other front back was fresh (zero, below, is) = sym (ap (λ (x : Held). x.octets) is)
    last old place octets other front back was fresh (suc k, below, is) =
        absurd (fresh (other, rw was (Contains-append_right front back _ (k, omega arith, is))))
