-- Lists whose elements all pass a test.
use Rattle.std.proofs.Common.{◌≡◌, ℕ, Bool, true, List, [], ◌∷◌, ◌++◌, length, refl, arith}
use Rattle.std.proofs.lemmas.Bool.{and_parts, and_from}
use Rattle.std.specs.List.{list_all}

pub all_append : (p : ℕ → Bool) (a b : List ℕ) → list_all p (a ++ b) ≡ true → (list_all p a ≡ true) × (list_all p b ≡ true)
all_append p [] b h = (refl, h)
all_append p (x ∷ a) b h =
    let parts = and_parts (p x) (list_all p (a ++ b)) h in
    let tail = all_append p a b parts.1 in
    (and_from (p x) (list_all p a) parts.0 tail.0, tail.1)

pub all_join : (p : ℕ → Bool) (a b : List ℕ) → list_all p a ≡ true → list_all p b ≡ true → list_all p (a ++ b) ≡ true
all_join p [] b ha hb = hb
all_join p (x ∷ a) b ha hb =
    let parts = and_parts (p x) (list_all p a) ha in
    and_from (p x) (list_all p (a ++ b)) parts.0 (all_join p a b parts.1 hb)

pub no_octets : (text : List ℕ) → length text ≡ 0 → text ≡ []
no_octets [] e = refl
no_octets (x ∷ xs) e = absurd (omega (arith, e))
