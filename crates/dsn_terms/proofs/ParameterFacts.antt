-- What a text begins with, and the parameters that words are.
use Rattle.std.proofs.Common.{◌≡◌, ℕ, ◌+◌, ◌<◌, ◌≤◌, Bool, true, false, List, [], ◌∷◌, ◌++◌, length, map, take, drop, get_or, Option, Some, None, is_some, option_copied, Bor, refl, sym, ap, ◌∙◌, arith, eqb, true≢false, if◌then◌else◌}
use Rattle.std.specs.Prelude.{nat_eq}
use Rattle.std.specs.Char.{to_ascii_lowercase}
use Rattle.std.specs.Cmp.Lexicographic.{unequal}
use Rattle.std.proofs.lemmas.Bool.{and_parts, eqb-true}
use Rattle.std.proofs.lemmas.List.{take_at, drop_at, at_drop_more, at_drop_all, length-map, length-take}
use Rattle.std.proofs.lemmas.Slice.Eq.{bytes_eq-Decides}
use Rattle.mail_wire.specs.Octets.{same_name}
use Rattle.dsn_terms.specs.Parameters.{behind, are_parameters, value_under}

-- ---- a front

pub behind-at : (front rest : List ℕ) → behind front (front ++ rest) ≡ Some rest
unfolding behind same_name
behind-at front rest =
    let same = (bytes_eq-Decides (map to_ascii_lowercase front) (map to_ascii_lowercase front)).1 refl in
    rw (take_at front rest (length front) refl, drop_at front rest (length front) refl, same) refl

-- a text that is shorter than a front doesn't begin with it
pub behind-short : (front text : List ℕ) → length text < length front → None ≡ behind front text
unfolding behind same_name
behind-short front text short =
    rw (unequal nat_eq (map to_ascii_lowercase (take (length front) text)) (map to_ascii_lowercase front) (λ same. omega (arith, simp length-map at same, length-take (length front) text))) refl

-- the first octets of a name and of one that is the same are the same letter
pub same-first : (x y : ℕ) (xs ys : List ℕ) → same_name (x ∷ xs) (y ∷ ys) ≡ true → to_ascii_lowercase x ≡ to_ascii_lowercase y
unfolding same_name
same-first x y xs ys same = eqb-true (to_ascii_lowercase x) (to_ascii_lowercase y) (and_parts (eqb (to_ascii_lowercase x) (to_ascii_lowercase y)) _ same).0

begins-first : (x y : ℕ) (front text : List ℕ) → is_some (behind (y ∷ front) (x ∷ text)) ≡ true → to_ascii_lowercase x ≡ to_ascii_lowercase y
unfolding behind
begins-first x y front text is = same-first x y (take (length front) text) front (by (same_name (x ∷ take (length front) text) (y ∷ front)) refl is)
  where
    by : (b : Bool) → same_name (x ∷ take (length front) text) (y ∷ front) ≡ b → is_some (if b then Some (drop (length front) text) else None) ≡ true → b ≡ true
    by true e h = refl
    by false e h = h

not-begins-nil : (y : ℕ) (front : List ℕ) → is_some (behind (y ∷ front) []) ≡ true → ⊥
unfolding behind same_name
not-begins-nil y front is = true≢false (sym is)

-- a text begins with one of two fronts at most, where their first letters differ
pub fronts_differ : (x y : ℕ) (xs ys text : List ℕ) → (to_ascii_lowercase x ≡ to_ascii_lowercase y → ⊥) → is_some (behind (x ∷ xs) text) ≡ true → is_some (behind (y ∷ ys) text) ≡ true → ⊥
fronts_differ x y xs ys [] differ p q = not-begins-nil x xs p
fronts_differ x y xs ys (z ∷ text) differ p q = differ (sym (begins-first z x xs text p) ∙ begins-first z y ys text q)

-- ---- the value of a keyword

value_under-yes : (keyword word : List ℕ) (words : List (List ℕ)) → is_some (behind keyword word) ≡ true → value_under keyword (word ∷ words) ≡ behind keyword word
unfolding value_under
value_under-yes keyword word words is = rw is refl

value_under-no : (keyword word : List ℕ) (words : List (List ℕ)) → is_some (behind keyword word) ≡ false → value_under keyword (word ∷ words) ≡ value_under keyword words
unfolding value_under
value_under-no keyword word words is = rw is refl

value_under-none : (keyword : List ℕ) → value_under keyword [] ≡ None
unfolding value_under
value_under-none keyword = refl

some-copied : (o : Option (Bor (List ℕ))) → is_some (option_copied o) ≡ is_some o
some-copied None = refl
some-copied (Some x) = refl

-- the first words don't begin with the keyword, and this one does
pub value-found : (keyword : List ℕ) (words : List (List ℕ)) (at : ℕ) (word : List ℕ) (value : Option (Bor (List ℕ))) → value_under keyword (drop at words) ≡ value_under keyword words → at < length words
    → word ≡ get_or words at word → option_copied value ≡ behind keyword word → is_some value ≡ true → option_copied value ≡ value_under keyword words
value-found keyword words at word value so_far here item is some =
    is ∙ sym (value_under-yes keyword word (drop (at + 1) words) (sym (ap is_some is) ∙ some-copied value ∙ some)) ∙ ap (λ w. value_under keyword (w ∷ drop (at + 1) words)) item
    ∙ sym (at_drop_more (value_under keyword) words at word here) ∙ so_far

-- nor does this one
pub value-next : (keyword : List ℕ) (words : List (List ℕ)) (at : ℕ) (word : List ℕ) (value : Option (Bor (List ℕ))) → value_under keyword (drop at words) ≡ value_under keyword words → at < length words
    → word ≡ get_or words at word → option_copied value ≡ behind keyword word → is_some value ≡ false → value_under keyword (drop (at + 1) words) ≡ value_under keyword words
value-next keyword words at word value so_far here item is none =
    sym (value_under-no keyword word (drop (at + 1) words) (sym (ap is_some is) ∙ some-copied value ∙ none)) ∙ ap (λ w. value_under keyword (w ∷ drop (at + 1) words)) item
    ∙ sym (at_drop_more (value_under keyword) words at word here) ∙ so_far

-- none does
pub value-nowhere : (keyword : List ℕ) (words : List (List ℕ)) (at : ℕ) → value_under keyword (drop at words) ≡ value_under keyword words → length words ≤ at → None ≡ value_under keyword words
value-nowhere keyword words at so_far all = sym (value_under-none keyword) ∙ sym (at_drop_all (value_under keyword) words at all) ∙ so_far

-- ---- words that were written

-- one parameter
pub one_parameter : (first second word value : List ℕ) → behind first word ≡ Some value → behind second word ≡ None
    → (are_parameters first second (word ∷ []) ≡ true) × (value_under first (word ∷ []) ≡ Some value) × (value_under second (word ∷ []) ≡ None)
unfolding value_under
one_parameter first second word value is other = (rw (is, other) refl, rw is refl, rw other refl)

-- a parameter of each keyword
pub two_parameters : (first second word next value more : List ℕ) → behind first word ≡ Some value → behind second word ≡ None → behind first next ≡ None → behind second next ≡ Some more
    → (are_parameters first second (word ∷ next ∷ []) ≡ true) × (value_under first (word ∷ next ∷ []) ≡ Some value) × (value_under second (word ∷ next ∷ []) ≡ Some more)
unfolding value_under
two_parameters first second word next value more is other none too = (rw (is, other, none, too) refl, rw is refl, rw (other, too) refl)
