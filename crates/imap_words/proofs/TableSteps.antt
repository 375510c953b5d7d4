-- Tables that are written out are tables, which a test tells.
use Rattle.std.proofs.Common.{◌≡◌, ℕ, ◌+◌, ◌-◌, ◌<◌, ◌==◌, nat_lt, Bool, true, false, not, ◌&&◌, List, [], ◌∷◌, ◌++◌, map, Contains, Option, None, Some, ◌⊎◌, inl, inr, refl, sym, ap, ◌∙◌, subst, append_assoc, if◌then◌else◌, arith}
use Rattle.std.proofs.lemmas.Bool.{and_parts, both_ways, cases_Bool, cond-true, cond-false, eqb-true, eq-eqb, not-true, and_from, ltb-true, lt-ltb}
use Rattle.std.proofs.lemmas.List.Elements.{Contains-append_cases, Contains-push_cases}
use Rattle.std.specs.List.{list_all}
use Rattle.imap_words.specs.Keywords.{Named, upper, IsWordOf, IsTable, TellsLonger}
use Rattle.imap_words.proofs.Composing.{NeverAt}

-- two lists of numbers are the same
abbrev pub same_list : List ℕ → List ℕ → Bool
same_list [] [] = true
same_list [] (y ∷ ys) = false
same_list (x ∷ xs) [] = false
same_list (x ∷ xs) (y ∷ ys) = (x == y) && same_list xs ys

same_true : (xs ys : List ℕ) → same_list xs ys ≡ true → xs ≡ ys
same_true [] [] e = refl
same_true [] (y ∷ ys) e = absurd (both_ways false refl e)
same_true (x ∷ xs) [] e = absurd (both_ways false refl e)
same_true (x ∷ xs) (y ∷ ys) e =
    let parts = and_parts (x == y) (same_list xs ys) e in
    let head : x ≡ y = eqb-true x y parts.0 in
    let tail : xs ≡ ys = same_true xs ys parts.1 in
    cc (head, tail)

same_self : (xs : List ℕ) → same_list xs xs ≡ true
same_self [] = refl
same_self (x ∷ xs) = both (x == x) (same_list xs xs) (eq-eqb x x refl) (same_self xs)
  where
    both : (a b : Bool) → a ≡ true → b ≡ true → a && b ≡ true
    both true true e f = refl
    both true false e f = f
    both false b e f = e

-- what is left of the second after the first
abbrev pub rest_of : List ℕ → List ℕ → Option (List ℕ)
rest_of [] ys = Some ys
rest_of (x ∷ xs) [] = None
rest_of (x ∷ xs) (y ∷ ys) = if x == y then rest_of xs ys else None

rest_spelled : (xs rest : List ℕ) → rest_of xs (xs ++ rest) ≡ Some rest
rest_spelled [] rest = refl
rest_spelled (x ∷ xs) rest = cond-true (x == x) _ _ (eq-eqb x x refl) ∙ rest_spelled xs rest

abbrev pub lower : ℕ → ℕ
lower x = if nat_lt 64 x && nat_lt x 91 then x + 32 else x

upper_cases : (x : ℕ) → (x ≡ upper x) ⊎ (x ≡ lower (upper x))
upper_cases x = elim (cases_Bool (nat_lt 96 x && nat_lt x 123)) [
  | inl low ↦
      let parts = and_parts (nat_lt 96 x) (nat_lt x 123) low in
      let from : 96 < x = ltb-true 96 x parts.0 in
      let to : x < 123 = ltb-true x 123 parts.1 in
      let up : upper x ≡ x - 32 = cond-true (nat_lt 96 x && nat_lt x 123) _ _ low in
      let down : lower (upper x) ≡ (x - 32) + 32
      = ap lower up ∙ cond-true (nat_lt 64 (x - 32) && nat_lt (x - 32) 91) _ _ (and_from _ _ (lt-ltb 64 (x - 32) (omega (arith, from))) (lt-ltb (x - 32) 91 (omega (arith, from, to)))) in
      inr (omega (arith, down, from))
  | inr other ↦ inl (sym (cond-false (nat_lt 96 x && nat_lt x 123) _ _ other))
]

-- the word begins, and with another octet
abbrev pub begins_other : ℕ → List ℕ → Bool
begins_other y [] = false
begins_other y (z ∷ word) = not (y == z)

module _ {V : Type 0} where
  -- ---- what holds of each entry

  only : (x e : Named V) → Contains (x ∷ []) e → x ≡ e
  only x e is = elim (Contains-push_cases [] x e is) [ inl none ↦ absurd (omega (arith, none.1)) | inr same ↦ same ]

  each_passes : (test : Named V → Bool) (table : List (Named V)) → list_all test table ≡ true → (e : Named V) → Contains table e → test e ≡ true
  each_passes test [] all e is = absurd (omega (arith, is.1))
  each_passes test (x ∷ table) all e is =
      let parts = and_parts (test x) (list_all test table) all in
      elim (Contains-append_cases (x ∷ []) table e is) [
        | inl here ↦ subst (λ z. test z ≡ true) (only x e here) parts.0
        | inr there ↦ each_passes test table parts.1 e there
      ]

  -- ---- a table

  abbrev pub is_upper : Named V → Bool
  is_upper e = same_list (map upper e.word) e.word

  abbrev pub apart : List (Named V) → Bool
  apart [] = true
  apart (x ∷ table) = list_all (λ (e : Named V). not (same_list x.word e.word)) table && apart table

  one_entry : (table : List (Named V)) → apart table ≡ true → (a b : Named V) → Contains table a → Contains table b → a.word ≡ b.word → a ≡ b
  one_entry [] test a b is also same = absurd (omega (arith, is.1))
  one_entry (x ∷ table) test a b is also same =
      let parts = and_parts (list_all (λ (e : Named V). not (same_list x.word e.word)) table) (apart table) test in
      elim (Contains-append_cases (x ∷ []) table a is) [
        | inl a_here ↦ elim (Contains-append_cases (x ∷ []) table b also) [
          | inl b_here ↦ sym (only x a a_here) ∙ only x b b_here
          | inr b_there ↦ absurd (differs x table parts.0 b b_there (ap (λ z. z.word) (only x a a_here) ∙ same))
        ]
        | inr a_there ↦ elim (Contains-append_cases (x ∷ []) table b also) [
          | inl b_here ↦ absurd (differs x table parts.0 a a_there (ap (λ z. z.word) (only x b b_here) ∙ sym same))
          | inr b_there ↦ one_entry table parts.1 a b a_there b_there same
        ]
      ]
    where
      differs : (x : Named V) (table : List (Named V)) → list_all (λ (e : Named V). not (same_list x.word e.word)) table ≡ true → (e : Named V) → Contains table e → x.word ≡ e.word → ⊥
      differs x table all e there same =
          both_ways (same_list x.word e.word) (not-true _ (each_passes (λ (e : Named V). not (same_list x.word e.word)) table all e there)) (subst (λ z. same_list x.word z ≡ true) same (same_self x.word))

  pub is_table : (first : Named V) (table : List (Named V)) → list_all is_upper (first ∷ table) ≡ true → apart (first ∷ table) ≡ true → IsTable (first ∷ table)
  is_table first table uppers test = record {
    some = first;
    known = (0, omega arith, refl);
    each = λ e is. same_true (map upper e.word) e.word (each_passes is_upper (first ∷ table) uppers e is);
    one = λ a b is also same. ap (λ z. z.says) (one_entry (first ∷ table) test a b is also same);
  }

  -- ---- which octets go on after a word

  abbrev pub goes_on : (V → ℕ → Bool) → V → Option (List ℕ) → Bool
  goes_on later v None = true
  goes_on later v (Some []) = true
  goes_on later v (Some (y ∷ ys)) = later v y && later v (lower y)

  abbrev pub tells_all : (V → ℕ → Bool) → List (Named V) → Bool
  tells_all later table = list_all (λ (a : Named V). list_all (λ (b : Named V). goes_on later a.says (rest_of a.word b.word)) table) table

  pub tells_longer : (later : V → ℕ → Bool) (table : List (Named V)) → tells_all later table ≡ true → TellsLonger table later
  tells_longer later table test entry x known begins =
      let row = each_passes (λ (a : Named V). list_all (λ (b : Named V). goes_on later a.says (rest_of a.word b.word)) table) table test entry known in
      let cell = each_passes (λ (b : Named V). goes_on later entry.says (rest_of entry.word b.word)) table row begins.0 begins.2 in
      let left : rest_of entry.word begins.0.word ≡ Some (upper x ∷ begins.1)
      = ap (rest_of entry.word) (begins.3 ∙ append_assoc entry.word (upper x ∷ []) begins.1) ∙ rest_spelled entry.word (upper x ∷ begins.1) in
      let both = and_parts (later entry.says (upper x)) (later entry.says (lower (upper x))) (subst (λ z. goes_on later entry.says z ≡ true) left cell) in
      elim (upper_cases x) [
        | inl same ↦ subst (λ z. later entry.says z ≡ true) (sym same) both.0
        | inr same ↦ subst (λ z. later entry.says z ≡ true) (sym same) both.1
      ]

  -- ---- which octets begin no word

  pub word_never : (table : List (Named V)) (x : ℕ) → list_all (λ (e : Named V). begins_other (upper x) e.word) table ≡ true → NeverAt (IsWordOf table) x
  word_never table x test a b v more is e = by_word a is.entry.word is.word (each_passes (λ (e : Named V). begins_other (upper x) e.word) table test is.entry is.known) e
    where
      by_word : (a word : List ℕ) → map upper a ≡ word → begins_other (upper x) word ≡ true → a ++ b ≡ x ∷ more → ⊥
      by_word [] word w t e = both_ways false refl (subst (λ z. begins_other (upper x) z ≡ true) (sym w) t)
      by_word (y ∷ a) word w t e =
          let same : y ≡ x = cc e in
          let other : not (upper x == upper y) ≡ true = subst (λ z. begins_other (upper x) z ≡ true) (sym w) t in
          both_ways (upper x == upper y) (not-true _ other) (eq-eqb (upper x) (upper y) (ap upper (sym same)))
