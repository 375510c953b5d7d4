-- The longest front that passes.
use Rattle.std.proofs.Common.{◌≡◌, ℕ, ◌<◌, ◌≤◌, Bool, true, false, not, List, [], ◌∷◌, ◌++◌, length, get_or, take, drop, Some, None, refl, sym, ap, ◌∙◌, arith, position}
use Rattle.std.proofs.lemmas.Bool.{and_parts, both_ways}
use Rattle.std.proofs.lemmas.Grind.{common_steps}
use Rattle.std.proofs.lemmas.List.{take-append-drop, drop_more, length-take-le, get_or-take, take_all, drop_all}
use Rattle.std.proofs.lemmas.List.Quantifiers.{position-Some}
use Rattle.std.proofs.lemmas.List.Recursion.{and_from_places}
use Rattle.std.proofs.lemmas.List.Sums.{fails_before_first}
use Rattle.std.specs.List.{list_all, position_or_len}
use Rattle.mail_wire.specs.Spans.{Stops, IsSpan}
use Rattle.mail_wire.specs.Octets.{is_white, is_nonwhite}

pub all_from_places : (p : ℕ → Bool) (xs : List ℕ) → ((k : ℕ) → k < length xs → p (get_or xs k 0) ≡ true) → list_all p xs ≡ true
all_from_places p xs h = and_from_places (list_all p) p refl (λ _ _. refl) xs 0 h

-- p passes exactly where q does not
abbrev pub Opposite : (ℕ → Bool) → (ℕ → Bool) → Type 0
Opposite p q = (x : ℕ) → p x ≡ not (q x)

pub IsSpan-found : (p q : ℕ → Bool) (xs : List ℕ) (i : ℕ) → Opposite p q → position q xs ≡ Some i → (i ≤ length xs) × IsSpan p xs (take i xs) (drop i xs)
IsSpan-found p q xs i other e =
    let at = position-Some q xs i 0 e in
    let len : length (take i xs) ≡ i = length-take-le i xs (omega arith) in (
      omega (arith, at.0),
      record {
        whole = sym (take-append-drop i xs);
        passes = all_from_places p (take i xs) (λ k l. rw (get_or-take i xs k 0 (omega arith)) (other (get_or xs k 0) ∙ ap not (at.2 k (omega arith))));
        stops = rw (drop_more xs i 0 at.0) (other (get_or xs i 0) ∙ ap not at.1);
      },
    )

pub IsSpan-whole : (p q : ℕ → Bool) (xs : List ℕ) → Opposite p q → position q xs ≡ None → IsSpan p xs (take (length xs) xs) (drop (length xs) xs)
IsSpan-whole p q xs other e =
    let past : length xs ≤ position_or_len q xs = grind (arith, common_steps) in
    record {
      whole = sym (take-append-drop (length xs) xs);
      passes = rw (take_all (length xs) xs (omega arith)) (all_from_places p xs (λ k l. other (get_or xs k 0) ∙ ap not (fails_before_first q xs k 0 (omega arith))));
      stops = rw (drop_all (length xs) xs (omega arith)) tt;
    }

-- There is one longest front.
pub span_once : (p : ℕ → Bool) (a b x y : List ℕ) → list_all p a ≡ true → list_all p b ≡ true → Stops p x → Stops p y → a ++ x ≡ b ++ y → (a ≡ b) × (x ≡ y)
span_once p [] [] x y pa pb sx sy e = (refl, e)
span_once p [] (h ∷ b) [] y pa pb sx sy e = cc e
span_once p [] (h ∷ b) (k ∷ x) y pa pb sx sy e =
    let parts = and_parts (p h) (list_all p b) pb in
    let same : k ≡ h = cc e in
    absurd (both_ways (p h) (ap p (sym same) ∙ sx) parts.0)
span_once p (h ∷ a) [] x [] pa pb sx sy e = cc e
span_once p (h ∷ a) [] x (k ∷ y) pa pb sx sy e =
    let parts = and_parts (p h) (list_all p a) pa in
    let same : k ≡ h = cc e in
    absurd (both_ways (p h) (ap p (sym same) ∙ sy) parts.0)
span_once p (h ∷ a) (k ∷ b) x y pa pb sx sy e =
    let same : h ≡ k = cc e in
    let rest : a ++ x ≡ b ++ y = cc e in
    let r = span_once p a b x y (and_parts (p h) (list_all p a) pa).1 (and_parts (p k) (list_all p b) pb).1 sx sy rest in
    let front : a ≡ b = r.0 in
    (cc, r.1)

pub IsSpan-at : (p : ℕ → Bool) (xs front rest a b : List ℕ) → front ≡ a → rest ≡ b → IsSpan p xs a b → IsSpan p xs front rest
IsSpan-at p xs front rest a b e f is = rw (e, f) is

-- white and black octets are each what the others are not
pub white_opposite : Opposite is_white (λ x. not (is_white x))
white_opposite x = not_not (is_white x)
  where
    not_not : (b : Bool) → b ≡ not (not b)
    not_not true = refl
    not_not false = refl

pub nonwhite_opposite : Opposite is_nonwhite is_white
nonwhite_opposite x = refl
