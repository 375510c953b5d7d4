-- What a found value tells, and what it tells that none was found.
use Rattle.std.proofs.Common.{◌≡◌, ℕ, List, [], ◌∷◌, ◌++◌, Option, Some, None}
use Rattle.std.specs.Prelude.{IfSome, IfNone, MatchOption}

pub some_of : {A : Type 0} (N : Type 0) (P : A → Type 0) (r : Option A) → MatchOption r N P → IfSome r P
some_of N P None m = tt
some_of N P (Some x) m = m

pub none_of : {A : Type 0} (N : Type 0) (P : A → Type 0) (r : Option A) → MatchOption r N P → IfNone r N
none_of N P None m = m
none_of N P (Some x) m = tt

pub none_if : {A : Type 0} (N M : Type 0) (r : Option A) → (N → M) → IfNone r N → IfNone r M
none_if N M None f m = f m
none_if N M (Some x) f m = tt

-- the same octets stand after the same ones
pub after_same : (xs ys zs : List ℕ) → xs ++ ys ≡ xs ++ zs → ys ≡ zs
after_same [] ys zs h = h
after_same (x ∷ xs) ys zs h = after_same xs ys zs (next h)
  where
    next : x ∷ (xs ++ ys) ≡ x ∷ (xs ++ zs) → xs ++ ys ≡ xs ++ zs
    next h = cc
