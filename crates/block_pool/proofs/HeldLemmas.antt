-- What is held, by the lengths of what begins at each block.
use Rattle.std.proofs.Common.{◌≡◌, ◌≢◌, ℕ, zero, suc, ◌+◌, ◌<◌, ◌≤◌, List, [], ◌∷◌, ◌++◌, length, take, drop, set, Contains, All, AllPairs, arith, refl, sym, ap, ◌∙◌, Option, Some, None}
use Rattle.std.proofs.lemmas.List.Elements.{All-nil, All-cons, All-weaker}
use Rattle.std.proofs.lemmas.List.Kept.{AllPairs-cons}
use Rattle.block_pool.specs.Pool.{Held}
use Rattle.block_pool.specs.private.Kept.{held_from, len_at}

-- what is held under an id, by its length
pub record IsFound (octets_of : ℕ → ℕ → List ℕ) (first : ℕ) (lens : List (Option ℕ)) (id : ℕ) (octets : List ℕ) : Type 0 where
  pub at : ℕ
  pub len : ℕ
  pub place : id ≡ first + at
  pub within : at < length lens
  pub len_is : len_at lens at ≡ Some len
  pub said : octets ≡ octets_of id len

further : (octets_of : ℕ → ℕ → List ℕ) (first : ℕ) (one : Option ℕ) (lens : List (Option ℕ)) (id : ℕ) (octets : List ℕ) → IsFound octets_of (suc first) lens id octets
    → IsFound octets_of first (one ∷ lens) id octets
further octets_of first one lens id octets found =
    let place : id ≡ suc first + found.at = found.place in
    let within : found.at < length lens = found.within in
    record {
      at = suc found.at;
      len = found.len;
      place = omega arith;
      within = omega arith;
      len_is = found.len_is;
      said = found.said;
    }

pub found : (octets_of : ℕ → ℕ → List ℕ) (first : ℕ) (lens : List (Option ℕ)) (id : ℕ) (octets : List ℕ)
    → Contains (held_from octets_of first lens) (record { id = id; octets = octets }) → IsFound octets_of first lens id octets
found octets_of first [] id octets (k, below, is) = absurd (omega arith)
found octets_of first (None ∷ lens) id octets within = further octets_of first None lens id octets (found octets_of (suc first) lens id octets within)
found octets_of first (Some len ∷ lens) id octets (zero, below, is) =
    let same : first ≡ id = ap (λ (one : Held). one.id) is in
    record {
      at = 0;
      len = len;
      place = omega arith;
      within = omega arith;
      len_is = refl;
      said = sym (ap (λ (one : Held). one.octets) is) ∙ ap (λ (n : ℕ). octets_of n len) same;
    }
found octets_of first (Some len ∷ lens) id octets (suc k, below, is) =
    further octets_of first (Some len) lens id octets (found octets_of (suc first) lens id octets (k, omega arith, is))

-- what one length tells
abbrev pub one_of : (ℕ → ℕ → List ℕ) → ℕ → Option ℕ → List Held
one_of octets_of id None = []
one_of octets_of id (Some len) = (record { id = id; octets = octets_of id len }) ∷ []

-- where the length at one place is set, what stands before and after it stays
pub held_from-set : (octets_of : ℕ → ℕ → List ℕ) (first : ℕ) (lens : List (Option ℕ)) (at id : ℕ) (one : Option ℕ) → at < length lens → id ≡ first + at
    → held_from octets_of first (set lens at one)
    ≡ held_from octets_of first (take at lens) ++ (one_of octets_of id one ++ held_from octets_of (suc id) (drop (suc at) lens))
held_from-set octets_of first [] at id one within place = absurd (omega arith)
held_from-set octets_of first (old ∷ lens) zero id None within place =
    let same : suc first ≡ suc id = omega arith in
    ap (λ (n : ℕ). held_from octets_of n lens) same
held_from-set octets_of first (old ∷ lens) zero id (Some len) within place =
    let same : first ≡ id = omega arith in
    ap (λ (n : ℕ). held_from octets_of n (Some len ∷ lens)) same
held_from-set octets_of first (None ∷ lens) (suc at) id one within place = held_from-set octets_of (suc first) lens at id one (omega arith) (omega arith)
held_from-set octets_of first (Some len ∷ lens) (suc at) id one within place =
    ap (λ (more : List Held). (record { id = first; octets = octets_of first len }) ∷ more) (held_from-set octets_of (suc first) lens at id one (omega arith) (omega arith))

-- where the octets of what is held are the same, the same is held
pub held_from-same : (old new : ℕ → ℕ → List ℕ) (first : ℕ) (lens : List (Option ℕ))
    → ((at id len : ℕ) → id ≡ first + at → len_at lens at ≡ Some len → new id len ≡ old id len)
    → held_from new first lens ≡ held_from old first lens
held_from-same old new first [] same = refl
held_from-same old new first (None ∷ lens) same =
    held_from-same old new (suc first) lens (λ at id len place is. same (suc at) id len (omega arith) is)
held_from-same old new first (Some len ∷ lens) same =
    let here : new first len ≡ old first len = same 0 first len (omega arith) refl in
    let rest = held_from-same old new (suc first) lens (λ at id len place is. same (suc at) id len (omega arith) is) in
    rw (here, rest)

pub held_from-ids : (octets_of : ℕ → ℕ → List ℕ) (first low : ℕ) (lens : List (Option ℕ)) → low ≤ first → All (λ (one : Held). low ≤ one.id) (held_from octets_of first lens)
held_from-ids octets_of first low [] above = All-nil (λ (one : Held). low ≤ one.id)
held_from-ids octets_of first low (None ∷ lens) above = held_from-ids octets_of (suc first) low lens (omega arith)
held_from-ids octets_of first low (Some len ∷ lens) above =
    All-cons (λ (one : Held). low ≤ one.id) _ _ above (held_from-ids octets_of (suc first) low lens (omega arith))

-- no two things have one id
pub held_from-distinct : (octets_of : ℕ → ℕ → List ℕ) (first : ℕ) (lens : List (Option ℕ)) → AllPairs (λ (one other : Held). one.id ≢ other.id) (held_from octets_of first lens)
held_from-distinct octets_of first [] = λ i j d below within. absurd (omega arith)
held_from-distinct octets_of first (None ∷ lens) = held_from-distinct octets_of (suc first) lens
held_from-distinct octets_of first (Some len ∷ lens) =
    let above = held_from-ids octets_of (suc first) (suc first) lens (omega arith) in
    AllPairs-cons (λ (one other : Held). one.id ≢ other.id) _ _
    (All-weaker (λ (other : Held). suc first ≤ other.id) (λ (other : Held). first ≢ other.id) (λ other later same. omega arith) _ above)
    (held_from-distinct octets_of (suc first) lens)
