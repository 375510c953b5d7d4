-- The values of NOTIFY.
use Rattle.std.proofs.Common.{◌≡◌, ℕ, zero, suc, ◌+◌, ◌*◌, ◌<◌, ◌≤◌, Bool, true, false, List, [], ◌∷◌, codes, Option, Some, None, IfNone, cond, refl, sym, ap, ◌∙◌, subst, arith, eqb, inl, inr, true≢false}
use Rattle.std.specs.Char.{to_ascii_lowercase}
use Rattle.std.specs.List.{list_all, onto_first}
use Rattle.std.proofs.lemmas.Bool.{and_parts, or_cases, eqb-true}
use Rattle.mail_wire.specs.Octets.{same_name}
use Rattle.dsn_terms.specs.RecipientTerms.{comma_words, times, is_report_word, IsReportList, IsNotify, NotifySays}
use Rattle.dsn_terms.specs.TermTexts.{is_visible, notify_value}
use Rattle.dsn_terms.proofs.ParameterFacts.{same-first}

-- ---- NEVER is no list of reports

report_letter : (x : ℕ) (xs : List ℕ) → is_report_word (x ∷ xs) ≡ true → to_ascii_lowercase x ≡ 110 → ⊥
report_letter x xs is n = elim (or_cases (same_name (x ∷ xs) (codes "SUCCESS")) _ is) [
  | inl success ↦ let s : to_ascii_lowercase x ≡ 115 = same-first x 83 xs (codes "UCCESS") success in omega (arith, s, n)
  | inr more ↦ elim (or_cases (same_name (x ∷ xs) (codes "FAILURE")) (same_name (x ∷ xs) (codes "DELAY")) more) [
    | inl failure ↦ let f : to_ascii_lowercase x ≡ 102 = same-first x 70 xs (codes "AILURE") failure in omega (arith, f, n)
    | inr delay ↦ let d : to_ascii_lowercase x ≡ 100 = same-first x 68 xs (codes "ELAY") delay in omega (arith, d, n)
  ]
]

first_word : (x : ℕ) (words : List (List ℕ)) → list_all is_report_word (onto_first x words) ≡ true → (xs : List ℕ) × (is_report_word (x ∷ xs) ≡ true)
first_word x [] all = ([], (and_parts (is_report_word (x ∷ [])) true all).0)
first_word x (word ∷ words) all = (word, (and_parts (is_report_word (x ∷ word)) (list_all is_report_word words) all).0)

split_first : (x : ℕ) (b : Bool) (words : List (List ℕ)) → eqb x 44 ≡ b → to_ascii_lowercase x ≡ 110 → list_all is_report_word (cond b ([] ∷ words) (onto_first x words)) ≡ true → ⊥
split_first x true words is n all =
    let comma : x ≡ 44 = eqb-true x 44 is in
    let same : 44 ≡ 110 = ap to_ascii_lowercase (sym comma) ∙ n in
    omega (arith, same)
split_first x false words is n all =
    let first = first_word x words all in
    report_letter x first.0 first.1 n

not-never-nil : same_name [] (codes "NEVER") ≡ true → ⊥
unfolding same_name
not-never-nil same = true≢false (sym same)

never_alone : (value : List ℕ) → same_name value (codes "NEVER") ≡ true → list_all is_report_word (comma_words value) ≡ true → ⊥
never_alone [] same all = not-never-nil same
never_alone (x ∷ value) same all = split_first x (eqb x 44) (comma_words value) refl (same-first x 78 value (codes "EVER") same) all

not-IsNotify : (value : List ℕ) → same_name value (codes "NEVER") ≡ false → ((notify : ℕ) → IsReportList value notify → ⊥) → (notify : ℕ) → IsNotify value notify → ⊥
not-IsNotify value other none notify is = elim is [
  | inl never ↦ true≢false (sym never.0 ∙ other)
  | inr list ↦ none notify list
]

pub not-NotifySays : (found : Option ℕ) (value : Option (List ℕ)) (text : List ℕ) → value ≡ Some text → same_name text (codes "NEVER") ≡ false
    → IfNone found ((notify : ℕ) → IsReportList text notify → ⊥) → IfNone found ((notify : ℕ) → NotifySays value notify → ⊥)
not-NotifySays (Some n) value text e other none = tt
not-NotifySays None value text e other none = λ notify is. not-IsNotify text other none notify (subst (λ v. NotifySays v notify) e is)

IsNotify-once : (value : List ℕ) (a b : ℕ) → IsNotify value a → IsNotify value b → a ≡ b
IsNotify-once value a b p q = elim p [
  | inl never ↦ elim q [
    | inl too ↦ never.1 ∙ sym too.1
    | inr list ↦ absurd (never_alone value never.0 list.words)
  ]
  | inr list ↦ elim q [
    | inl never ↦ absurd (never_alone value never.0 list.words)
    | inr too ↦ list.notify_is ∙ sym too.notify_is
  ]
]

pub NotifySays-once : (value : Option (List ℕ)) (a b : ℕ) → NotifySays value a → NotifySays value b → a ≡ b
NotifySays-once None a b p q = p ∙ sym q
NotifySays-once (Some value) a b p q = IsNotify-once value a b p q

IsNotify-small : (value : List ℕ) (notify : ℕ) → IsNotify value notify → notify < 8
IsNotify-small value notify is = elim is [
  | inl never ↦ omega (arith, never.1)
  | inr list ↦ omega (arith, list.notify_is, list.success, list.failure, list.delay)
]

pub NotifySays-small : (value : Option (List ℕ)) (notify : ℕ) → NotifySays value notify → notify < 8
NotifySays-small None notify is = omega (arith, is)
NotifySays-small (Some value) notify is = IsNotify-small value notify is

-- ---- what is written

eight : (P : ℕ → Type 0) → P 0 → P 1 → P 2 → P 3 → P 4 → P 5 → P 6 → P 7 → (n : ℕ) → n < 8 → P n
eight P a b c d e f g h zero l = a
eight P a b c d e f g h (suc zero) l = b
eight P a b c d e f g h (suc (suc zero)) l = c
eight P a b c d e f g h (suc (suc (suc zero))) l = d
eight P a b c d e f g h (suc (suc (suc (suc zero)))) l = e
eight P a b c d e f g h (suc (suc (suc (suc (suc zero))))) l = f
eight P a b c d e f g h (suc (suc (suc (suc (suc (suc zero)))))) l = g
eight P a b c d e f g h (suc (suc (suc (suc (suc (suc (suc zero))))))) l = h
eight P a b c d e f g h (suc (suc (suc (suc (suc (suc (suc (suc n)))))))) l = absurd (omega arith)

listed : (value : List ℕ) (s f d : ℕ) → list_all is_report_word (comma_words value) ≡ true → times (codes "SUCCESS") value ≡ s → times (codes "FAILURE") value ≡ f → times (codes "DELAY") value ≡ d
    → s ≤ 1 → f ≤ 1 → d ≤ 1 → IsNotify value (s + 2 * f + 4 * d)
listed value s f d words a b c p q r = inr (record {
  words = words;
  success = omega (arith, a);
  failure = omega (arith, b);
  delay = omega (arith, c);
  notify_is = rw (a, b, c) refl;
})

-- each value is read as what it was written for
pub IsNotify-written : (notify : ℕ) → notify < 8 → IsNotify (notify_value notify) notify
unfolding same_name
IsNotify-written notify small = eight (λ n. IsNotify (notify_value n) n)
    (inl (refl, refl))
    (listed (codes "SUCCESS") 1 0 0 refl refl refl refl (omega arith) (omega arith) (omega arith))
    (listed (codes "FAILURE") 0 1 0 refl refl refl refl (omega arith) (omega arith) (omega arith))
    (listed (codes "SUCCESS,FAILURE") 1 1 0 refl refl refl refl (omega arith) (omega arith) (omega arith))
    (listed (codes "DELAY") 0 0 1 refl refl refl refl (omega arith) (omega arith) (omega arith))
    (listed (codes "SUCCESS,DELAY") 1 0 1 refl refl refl refl (omega arith) (omega arith) (omega arith))
    (listed (codes "FAILURE,DELAY") 0 1 1 refl refl refl refl (omega arith) (omega arith) (omega arith))
    (listed (codes "SUCCESS,FAILURE,DELAY") 1 1 1 refl refl refl refl (omega arith) (omega arith) (omega arith))
    notify small

pub visible-notify : (notify : ℕ) → notify < 8 → list_all is_visible (notify_value notify) ≡ true
visible-notify notify small = eight (λ n. list_all is_visible (notify_value n) ≡ true) refl refl refl refl refl refl refl refl notify small
