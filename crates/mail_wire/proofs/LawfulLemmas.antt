-- Lawful transcripts, one entry after another.
use Rattle.std.proofs.Common.{◌≡◌, ℕ, List, [], ◌∷◌, ◌++◌, refl, ap, append_assoc, append-nil, ◌⊎◌, inl, inr}
use Rattle.mail_wire.specs.declared.outside.Entry.{Entry}
use Rattle.mail_wire.specs.declared.outside.Entry.TheVariants.{Taken, Given}
use Rattle.mail_wire.specs.Transcript.{AreGiven, taken_of, given_of, IsLawful}

heads : {a b : Entry} {xs ys : List Entry} → a ∷ xs ≡ b ∷ ys → a ≡ b
heads h = cc

tails : {a b : Entry} {xs ys : List Entry} → a ∷ xs ≡ b ∷ ys → xs ≡ ys
tails h = cc

-- where an entry stands in a list with a last one: it is the last one, or stands before it
split_last : (xs before after : List Entry) (x y : Entry) → xs ++ x ∷ [] ≡ before ++ y ∷ after
    → ((xs ≡ before) × (x ≡ y)) ⊎ ((more : List Entry) × (xs ≡ before ++ y ∷ more))
split_last [] [] after x y h = inl (refl, heads h)
split_last [] (b ∷ []) after x y h = let none = tails h in cc
split_last [] (b ∷ c ∷ before) after x y h = let none = tails h in cc
split_last (a ∷ xs) [] after x y h = inr (xs, ap (λ entry. entry ∷ xs) (heads h))
split_last (a ∷ xs) (b ∷ before) after x y h =
    let first : a ≡ b = heads h in
    elim (split_last xs before after x y (tails h)) [
      | inl found ↦ inl (rw (first, found.0) refl, found.1)
      | inr found ↦ inr (found.0, rw (first, found.1) refl)
    ]

pub IsLawful-nil : (answer : List ℕ → List ℕ) → IsLawful answer []
IsLawful-nil answer [] octets after h = cc
IsLawful-nil answer (x ∷ before) octets after h = cc

-- a take, where all that was taken is answered
pub IsLawful-take : (answer : List ℕ → List ℕ) (xs : List Entry) (piece : List ℕ) → IsLawful answer xs → given_of xs ≡ answer (taken_of xs)
    → IsLawful answer (xs ++ Taken piece ∷ [])
IsLawful-take answer xs piece lawful answered before octets after h =
    elim (split_last xs before after (Taken piece) (Taken octets) h) [
      | inl found ↦ rw (← found.0) answered
      | inr found ↦ lawful before octets found.0 found.1
    ]

IsLawful-given : (answer : List ℕ → List ℕ) (xs : List Entry) (given : List ℕ) → IsLawful answer xs → IsLawful answer (xs ++ Given given ∷ [])
IsLawful-given answer xs given lawful before octets after h =
    elim (split_last xs before after (Given given) (Taken octets) h) [
      | inl found ↦ let apart = found.1 in cc
      | inr found ↦ lawful before octets found.0 found.1
    ]

-- gives break no law
pub IsLawful-give : (answer : List ℕ → List ℕ) (xs ys : List Entry) → IsLawful answer xs → AreGiven ys → IsLawful answer (xs ++ ys)
IsLawful-give answer xs [] lawful only = rw append-nil lawful
IsLawful-give answer xs (Taken piece ∷ ys) lawful only = absurd only
IsLawful-give answer xs (Given given ∷ ys) lawful only =
    rw append_assoc at (IsLawful-give answer (xs ++ Given given ∷ []) ys (IsLawful-given answer xs given lawful) only)
