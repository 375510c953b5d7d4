-- Whether a text is a mailbox name in modified UTF-7: such a text has as many octets as the name has characters, or more.
use Rattle.std.proofs.Common.{◌≡◌, ℕ, ◌+◌, ◌<◌, ◌≤◌, nat_lt, true, ◌==◌, List, [], ◌∷◌, ◌++◌, length, Option, None, Some, inl, inr, refl, sym, ap, ◌∙◌, length-append, arith}
use Rattle.std.proofs.lemmas.Bool.{and_parts, and_from, cond_both, cases_Bool, lt-ltb}
use Rattle.std.proofs.lemmas.Str.{chars-encodes}
use Rattle.std.specs.List.{list_all}
use Rattle.std.specs.Str.{chars, encode_utf8_all, all_scalars}
use Rattle.std.specs.Char.{IsScalar}
use Rattle.imap_words.specs.Utf7.{is_printable, char_octets, modified_base64, shifted, unshifted, written_after}
use Rattle.imap_words.proofs.Utf7Runs.{run_long}
use Rattle.imap_words.proofs.Utf7Lemmas.{written_printable, written_other, char_begins}
use Rattle.imap_grammar.specs.MailboxNames.{IsNameOf, ReadsNames}
use Rattle.imap_grammar.proofs.Deciding.{decide_both, decide_true, decide_same_list, ShortList, decide_short_list}
use lib.Utf8.{scalar_cases}

-- ---- how long a name can be

shifted_long : (octets : List ℕ) → length octets ≤ length (shifted octets)
shifted_long [] = omega arith
shifted_long (x ∷ octets) = omega (arith, run_long (x ∷ octets), length-append (modified_base64 (x ∷ octets)) (45 ∷ []))

unshifted_long : (c : ℕ) → 0 < length (unshifted c)
unshifted_long c = cond_both (c == 38) _ _ (λ z. 0 < length z) (λ _. omega arith) (λ _. omega arith)

char_long : (c : ℕ) → 0 < length (char_octets c)
char_long c = let some = char_begins c in omega (arith, ap length some.is)

written_long : (octets cs : List ℕ) → length octets + length cs ≤ length (written_after octets cs)
written_long octets [] = omega (arith, shifted_long octets)
written_long octets (c ∷ cs) = elim (cases_Bool (is_printable c)) [
  | inl plain ↦
      omega (arith, ap length (written_printable octets c cs plain), length-append (shifted octets) (unshifted c ++ written_after [] cs), length-append (unshifted c) (written_after [] cs), shifted_long octets, unshifted_long c, written_long [] cs)
  | inr other ↦ omega (arith, ap length (written_other octets c cs other), length-append octets (char_octets c), char_long c, written_long (octets ++ char_octets c) cs)
]

-- ---- characters are numbers below one

scalars_small : (cs : List ℕ) → all_scalars cs ≡ true → list_all (λ c. nat_lt c 1114112) cs ≡ true
scalars_small [] s = refl
scalars_small (c ∷ cs) s =
    let parts = and_parts _ (all_scalars cs) s in
    and_from (nat_lt c 1114112) (list_all (λ d. nat_lt d 1114112) cs) (lt-ltb c 1114112 (small parts.0)) (scalars_small cs parts.1)
  where
    small : IsScalar c → c < 1114112
    small is = elim (scalar_cases c is) [
      | inl low ↦ omega (arith, low)
      | inr up ↦ up.1
    ]

-- ---- a name, or none

abbrev Writes : List ℕ → List ℕ → Type 0
Writes text cs = (all_scalars cs ≡ true) × (text ≡ written_after [] cs)

read_name : (text : List ℕ) → (answer : Option (List ℕ)) × IsNameOf text answer
read_name text = elim (decide_short_list (length text) 1114112 (Writes text) (λ cs. decide_both (decide_true (all_scalars cs)) (decide_same_list text (written_after [] cs)))) [
  | yes found ↦
      let cs = found.numbers in
      (Some (encode_utf8_all cs), ((cs, (found.holds.0, refl)), found.holds.1 ∙ ap (λ z. written_after [] z) (sym (chars-encodes cs found.holds.0))))
  | no none ↦ (None, λ name utf8 e. none (at utf8.0 utf8.1.0 (e ∙ ap (λ z. written_after [] z) (ap chars (sym utf8.1.1) ∙ chars-encodes utf8.0 utf8.1.0))))
]
  where
    at : (cs : List ℕ) → all_scalars cs ≡ true → text ≡ written_after [] cs → ShortList (length text) 1114112 (Writes text)
    at cs s e = record { numbers = cs; few = omega (arith, written_long [] cs, ap length e); small = scalars_small cs s; holds = (s, e) }

pub names_read : (name_of : List ℕ → Option (List ℕ)) × ReadsNames name_of
names_read = (λ text. (read_name text).0, λ text. (read_name text).1)
