-- A run is read to the first octet that may not stand in it.
use Rattle.std.proofs.Common.{◌≡◌, ◌≢◌, ℕ, ◌+◌, ◌<◌, ◌≤◌, Bool, true, false, not, List, [], ◌∷◌, ◌++◌, length, get_or, take, drop, Some, None, refl, sym, ◌∙◌, subst, arith, position, length-append}
use Rattle.std.proofs.lemmas.Bool.{and_parts, both_ways}
use Rattle.std.proofs.lemmas.Grind.{common_steps}
use Rattle.std.proofs.lemmas.List.{take-append-drop, drop_more, length-take-le, get_or-take}
use Rattle.std.proofs.lemmas.List.Quantifiers.{position-Some}
use Rattle.std.proofs.lemmas.List.Recursion.{and_from_places}
use Rattle.std.proofs.lemmas.List.Sums.{fails_before_first}
use Rattle.std.specs.List.{list_all, position_or_len}
use Rattle.imap_words.specs.Languages.{IsViable}
use Rattle.imap_words.specs.Reading.{BeginsAlike, always, Reads, FailsAt}
use Rattle.imap_words.specs.Tokens.{IsRunOf, passes, is_atom_char, is_astring_char, is_list_char, is_tag_char, is_name_char}
use Rattle.imap_words.specs.declared.tokens.Kind.{Kind}
use Rattle.imap_words.specs.declared.tokens.Kind.TheVariants.{Atom, Astring, ListMailbox, Tag, FieldName, NameAstring}
use Rattle.imap_words.proofs.Composing.{NeverAt, fails_first}
use Rattle.imap_words.proofs.TokenSteps.{all_push, greedy_reads}
use Rattle.imap_words.proofs.Passing.{all_append}

all_from_places : (p : ℕ → Bool) (xs : List ℕ) → ((k : ℕ) → k < length xs → p (get_or xs k 0) ≡ true) → list_all p xs ≡ true
all_from_places p xs h = and_from_places (list_all p) p refl (λ _ _. refl) xs 0 h

not_false : (b : Bool) → not b ≡ false → b ≡ true
not_false true e = refl
not_false false e = cc e

not_true : (b : Bool) → not b ≡ true → b ≡ false
not_true true e = cc e
not_true false e = refl

pub all_whole : (p : ℕ → Bool) (xs : List ℕ) → position (λ x. not (p x)) xs ≡ None → list_all p xs ≡ true
all_whole p xs e =
    let past : length xs ≤ position_or_len (λ x. not (p x)) xs = grind (arith, common_steps) in
    all_from_places p xs (λ k l. not_false _ (fails_before_first (λ x. not (p x)) xs k 0 (omega arith)))

pub all_found : (p : ℕ → Bool) (xs : List ℕ) (i : ℕ) → position (λ x. not (p x)) xs ≡ Some i
    → (i < length xs) × (list_all p (take i xs) ≡ true) × (p (get_or xs i 0) ≡ false)
all_found p xs i e =
    let at = position-Some (λ x. not (p x)) xs i 0 e in
    let len : length (take i xs) ≡ i = length-take-le i xs (omega arith) in
    (omega (arith, at.0), all_from_places p (take i xs) (λ k l. rw (get_or-take i xs k 0 (omega arith)) (not_false _ (at.2 k (omega arith)))), not_true _ at.1)

run_a : (kind : Kind) → passes kind 97 ≡ true
unfolding is_atom_char is_astring_char is_list_char is_tag_char is_name_char
run_a Atom = refl
run_a Astring = refl
run_a ListMailbox = refl
run_a Tag = refl
run_a FieldName = refl
run_a NameAstring = refl

pub run_with : (kind : Kind) (text : List ℕ) → list_all (passes kind) text ≡ true → IsViable (IsRunOf (passes kind)) text
run_with kind text all = record {
  rest = 97 ∷ [];
  value = text ++ 97 ∷ [];
  is_word = record { some = rw (length-append text (97 ∷ [])) (omega arith); passes = all_push (passes kind) text 97 all (run_a kind); value_is = refl };
}

pub run_viable : (kind : Kind) → IsViable (IsRunOf (passes kind)) []
run_viable kind = run_with kind [] refl

pub run_more : (kind : Kind) (text : List ℕ) → position (λ x. not ((passes kind) x)) text ≡ None → IsViable (IsRunOf (passes kind)) text
run_more kind text e = run_with kind text (all_whole (passes kind) text e)

pub run_never : (kind : Kind) (x : ℕ) → (passes kind) x ≡ false → NeverAt (IsRunOf (passes kind)) x
run_never kind x bad a b v more is e = head_of a is.some is.passes e
  where
    head_of : (a : List ℕ) → 0 < length a → list_all (passes kind) a ≡ true → a ++ b ≡ x ∷ more → ⊥
    head_of [] some all e = omega (arith, some)
    head_of (y ∷ a) some all e =
        let same : y ≡ x = cc e in
        both_ways ((passes kind) x) bad (subst (λ z. (passes kind) z ≡ true) same (and_parts ((passes kind) y) (list_all (passes kind) a) all).0)

pub run_fails : (kind : Kind) (text : List ℕ) → position (λ x. not ((passes kind) x)) text ≡ Some 0 → FailsAt (IsRunOf (passes kind)) (always (passes kind)) text (length text)
run_fails kind [] e = absurd (not_none e)
  where
    not_none : position (λ x. not ((passes kind) x)) [] ≡ Some 0 → ⊥
    not_none e = cc e
run_fails kind (x ∷ xs) e = fails_first (IsRunOf (passes kind)) (always (passes kind)) x xs (run_viable kind) (run_never kind x (all_found (passes kind) (x ∷ xs) 0 e).2)

pub run_reads : (kind : Kind) (text front back : List ℕ) (end : ℕ) → position (λ x. not ((passes kind) x)) text ≡ Some end → end ≢ 0
    → front ≡ take end text → back ≡ drop end text → Reads (IsRunOf (passes kind)) (always (passes kind)) text front back
run_reads kind text front back end e some f b =
    let found = all_found (passes kind) text end e in
    let all : list_all (passes kind) front ≡ true = rw f found.1 in
    let begins : back ≡ get_or text end 0 ∷ drop (end + 1) text = b ∙ drop_more text end 0 found.0 in
    let long : 0 < length front = rw f (rw (length-take-le end text (omega (arith, found.0))) (omega (arith, some))) in
    greedy_reads (IsRunOf (passes kind)) (always (passes kind)) text front front back (rw (f, b) (sym (take-append-drop end text)))
    (record { some = long; passes = all; value_is = refl })
    (λ w is. is.value_is)
    (λ y c more w on is. longer y c more w (subst (λ z. BeginsAlike z (y ∷ more)) begins on) found.2 is)
    (λ a y c w s is. (and_parts ((passes kind) y) (list_all (passes kind) c) (all_append (passes kind) a (y ∷ c) (subst (λ z. list_all (passes kind) z ≡ true) s all)).1).0)
  where
    longer : (y : ℕ) (c more w : List ℕ) → get_or text end 0 ≡ y → (passes kind) (get_or text end 0) ≡ false → (IsRunOf (passes kind)) (front ++ y ∷ c) w → ⊥
    longer y c more w same bad is =
        let all = (and_parts ((passes kind) y) (list_all (passes kind) c) (all_append (passes kind) front (y ∷ c) is.passes).1).0 in
        both_ways ((passes kind) y) (subst (λ z. (passes kind) z ≡ false) same bad) all
