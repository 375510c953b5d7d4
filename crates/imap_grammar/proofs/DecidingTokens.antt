-- Whether octets are one of the smallest productions, or can be completed to one.
use Rattle.std.proofs.Common.{◌≡◌, ℕ, ◌<◌, ◌≤◌, ◌^◌, Bool, true, ◌&&◌, nat_le, ◌==◌, List, [], ◌∷◌, ◌++◌, length, map, Contains, refl, sym, ap, ◌∙◌, subst, append-nil, length-append, arith}
use Rattle.std.proofs.lemmas.Bool.{and_parts, and_from, eqb-true, eq-eqb, leb-true, le-leb}
use Rattle.std.proofs.lemmas.List.{map-append}
use Rattle.std.specs.List.{list_all}
use Rattle.imap_words.specs.Languages.{IsOctet, IsBetween, IsViable}
use Rattle.imap_words.specs.Tokens.{IsRunOf, IsNumber32, IsNonZero, BeginsZero, IsSpace, IsCrlf, is_digit, decimal_from}
use Rattle.imap_words.specs.Keywords.{Named, upper, IsWordOf, SomeBegins, IsTable}
use Rattle.imap_words.specs.declared.stop.Stop.TheVariants.{More}
use Rattle.imap_words.proofs.Passing.{all_append}
use Rattle.imap_words.proofs.TokenSteps.{all_push, decimal_append, decimal_grows, number_viable, non_zero_viable, non_zero_stops}
use Rattle.imap_words.proofs.KeywordSteps.{front_viable, word_viable}
use Rattle.imap_grammar.proofs.Deciding.{decide_by, decide_not, decide_both, decide_true, decide_same, decide_below, decide_same_list, decide_begins, decide_entry}
use Rattle.imap_grammar.proofs.DecidingWords.{Searches, Decided, same_decided, after_decided}

-- ---- an octet of a kind

abbrev pub IsOneOf : (ℕ → Bool) → List ℕ → ℕ → Type 0
IsOneOf p octets value = (octets ≡ value ∷ []) × (p value ≡ true)

module _ (p : ℕ → Bool) where
  search_one : Searches (IsOneOf p)
  search_one [] R decide = no (λ s. cc s.1.0)
  search_one (x ∷ y ∷ rest) R decide = no (λ s. cc s.1.0)
  search_one (x ∷ []) R decide = decide_by (λ s. (x, (refl, s.0), s.1)) (λ s. at s.0 s.1.0 s.1.1 s.2) (decide_both (decide_true (p x)) (decide x))
    where
      at : (v : ℕ) → x ∷ [] ≡ v ∷ [] → p v ≡ true → R v → (p x ≡ true) × R x
      at v e passes r = let same : v ≡ x = cc e in (subst (λ z. p z ≡ true) same passes, subst R same r)

  judge_one : (x : ℕ) → p x ≡ true → (octets : List ℕ) → Dec (IsViable (IsOneOf p) octets)
  judge_one x may [] = yes (record { rest = x ∷ []; value = x; is_word = (refl, may) })
  judge_one x may (y ∷ z ∷ rest) = no (λ viable. cc viable.is_word.0)
  judge_one x may (y ∷ []) = decide_by (λ e. record { rest = []; value = y; is_word = (refl, e) }) (λ (viable : IsViable (IsOneOf p) (y ∷ [])). at viable.rest viable.value viable.is_word.0 viable.is_word.1) (decide_true (p y))
    where
      at : (rest : List ℕ) (v : ℕ) → y ∷ rest ≡ v ∷ [] → p v ≡ true → p y ≡ true
      at rest v e passes = let same : v ≡ y = cc e in subst (λ z. p z ≡ true) same passes

  -- some octet passes
  pub one_decided : (x : ℕ) → p x ≡ true → Decided (IsOneOf p)
  one_decided x may = record { known = record { search = search_one; judge = judge_one x may }; some = record { rest = x ∷ []; value = x; is_word = (refl, may) } }

pub octet_decided : (x : ℕ) → Decided (IsOctet x)
octet_decided x = same_decided to from (one_decided (λ y. y == x) x (eq-eqb x x refl))
  where
    to : (octets : List ℕ) (v : ℕ) → IsOneOf (λ y. y == x) octets v → IsOctet x octets v
    to octets v is = let same = eqb-true v x is.1 in (is.0 ∙ ap (λ z. z ∷ []) same, same)

    from : (octets : List ℕ) (v : ℕ) → IsOctet x octets v → IsOneOf (λ y. y == x) octets v
    from octets v is = (is.0 ∙ ap (λ z. z ∷ []) (sym is.1), eq-eqb v x is.1)

pub space_decided : Decided IsSpace
space_decided = octet_decided 32

pub crlf_decided : Decided IsCrlf
crlf_decided = after_decided (octet_decided 13) (octet_decided 10)

pub between_decided : (low high : ℕ) → low ≤ high → Decided (IsBetween low high)
between_decided low high ordered = same_decided to from (one_decided between low (and_from (nat_le low low) (nat_le low high) (le-leb low low (omega arith)) (le-leb low high ordered)))
  where
    between : ℕ → Bool
    between y = nat_le low y && nat_le y high

    to : (octets : List ℕ) (v : ℕ) → IsOneOf between octets v → IsBetween low high octets v
    to octets v is = let parts = and_parts (nat_le low v) (nat_le v high) is.1 in record { is = is.0; from = leb-true low v parts.0; to = leb-true v high parts.1 }

    from : (octets : List ℕ) (v : ℕ) → IsBetween low high octets v → IsOneOf between octets v
    from octets v is = (is.is, and_from (nat_le low v) (nat_le v high) (le-leb low v is.from) (le-leb v high is.to))

-- ---- runs

module _ (p : ℕ → Bool) where
  abbrev Filled : List ℕ → Type 0
  Filled octets = (0 < length octets) × (list_all p octets ≡ true)

  search_run : Searches (IsRunOf p)
  search_run octets R decide = decide_by to from (decide_both (decide_both (decide_below 0 (length octets)) (decide_true (list_all p octets))) (decide octets))
    where
      to : Filled octets × R octets → (v : List ℕ) × IsRunOf p octets v × R v
      to s = (octets, record { some = s.0.0; passes = s.0.1; value_is = refl }, s.1)

      from : (v : List ℕ) × IsRunOf p octets v × R v → Filled octets × R octets
      from s = ((s.1.some, s.1.passes), subst R s.1.value_is s.2)

  pub run_decided : (x : ℕ) → p x ≡ true → Decided (IsRunOf p)
  run_decided x may = record { known = record { search = search_run; judge = λ octets. decide_by (to octets) (from octets) (decide_true (list_all p octets)) }; some = to [] refl }
    where
      to : (octets : List ℕ) → list_all p octets ≡ true → IsViable (IsRunOf p) octets
      to octets all = record {
        rest = x ∷ [];
        value = octets ++ x ∷ [];
        is_word = record { some = omega (arith, length-append octets (x ∷ [])); passes = all_push p octets x all may; value_is = refl };
      }

      from : (octets : List ℕ) → IsViable (IsRunOf p) octets → list_all p octets ≡ true
      from octets viable = (all_append p octets viable.rest viable.is_word.passes).0

-- ---- numbers

abbrev IsSmall : List ℕ → Type 0
IsSmall octets = (list_all is_digit octets ≡ true) × (decimal_from 0 octets < 2 ^ 32)

decide_small : (octets : List ℕ) → Dec (IsSmall octets)
decide_small octets = decide_both (decide_true (list_all is_digit octets)) (decide_below (decimal_from 0 octets) (2 ^ 32))

search_number : Searches IsNumber32
search_number octets R decide = decide_by to from (decide_both (decide_both (decide_below 0 (length octets)) (decide_small octets)) (decide (decimal_from 0 octets)))
  where
    to : ((0 < length octets) × IsSmall octets) × R (decimal_from 0 octets) → (v : ℕ) × IsNumber32 octets v × R v
    to s = (decimal_from 0 octets, record { some = s.0.0; digits = s.0.1.0; value_is = refl; bound = s.0.1.1 }, s.1)

    from : (v : ℕ) × IsNumber32 octets v × R v → ((0 < length octets) × IsSmall octets) × R (decimal_from 0 octets)
    from s = ((s.1.some, (s.1.digits, subst (λ z. z < 2 ^ 32) s.1.value_is s.1.bound)), subst R s.1.value_is s.2)

small_viable : (octets : List ℕ) → IsSmall octets → IsViable IsNumber32 octets
small_viable [] s = number_viable
small_viable (x ∷ xs) s = record {
  rest = [];
  value = decimal_from 0 (x ∷ xs);
  is_word = subst (λ z. IsNumber32 z (decimal_from 0 (x ∷ xs))) (sym (append-nil (x ∷ xs))) (record { some = omega arith; digits = s.0; value_is = refl; bound = s.1 });
}

viable_small : (octets : List ℕ) → IsViable IsNumber32 octets → IsSmall octets
viable_small octets viable =
    let is = viable.is_word in
    let whole : viable.value ≡ decimal_from (decimal_from 0 octets) viable.rest = is.value_is ∙ decimal_append 0 octets viable.rest in (
      (all_append is_digit octets viable.rest is.digits).0,
      omega (arith, whole, is.bound, decimal_grows (decimal_from 0 octets) viable.rest),
    )

pub number_decided : Decided IsNumber32
number_decided = record { known = record { search = search_number; judge = λ octets. decide_by (small_viable octets) (viable_small octets) (decide_small octets) }; some = number_viable }

decide_zero : (octets : List ℕ) → Dec (BeginsZero octets)
decide_zero [] = no (λ h. h)
decide_zero (x ∷ xs) = decide_same x 48

begins_longer : (octets rest : List ℕ) → BeginsZero octets → BeginsZero (octets ++ rest)
begins_longer [] rest h = absurd h
begins_longer (x ∷ xs) rest h = h

pub non_zero_decided : Decided IsNonZero
non_zero_decided = record { known = record { search = search_non_zero; judge = judge }; some = non_zero_viable }
  where
    search_non_zero : Searches IsNonZero
    search_non_zero octets R decide = decide_by to from (decide_both (decide_not (decide_zero octets)) (search_number octets R decide))
      where
        to : (BeginsZero octets → ⊥) × ((v : ℕ) × IsNumber32 octets v × R v) → (v : ℕ) × IsNonZero octets v × R v
        to s = (s.1.0, record { is_number = s.1.1; begins = s.0 }, s.1.2)

        from : (v : ℕ) × IsNonZero octets v × R v → (BeginsZero octets → ⊥) × ((v : ℕ) × IsNumber32 octets v × R v)
        from s = (s.1.begins, (s.0, s.1.is_number, s.2))

    completed : (octets : List ℕ) → (BeginsZero octets → ⊥) × IsViable IsNumber32 octets → IsViable IsNonZero octets
    completed [] s = non_zero_viable
    completed (x ∷ xs) s = non_zero_stops (x ∷ xs) x xs More refl s.0 s.1

    fronts : (octets : List ℕ) → IsViable IsNonZero octets → (BeginsZero octets → ⊥) × IsViable IsNumber32 octets
    fronts octets viable = (λ h. viable.is_word.begins (begins_longer octets viable.rest h), record { rest = viable.rest; value = viable.value; is_word = viable.is_word.is_number })

    judge : (octets : List ℕ) → Dec (IsViable IsNonZero octets)
    judge octets = decide_by (completed octets) (fronts octets) (decide_both (decide_not (decide_zero octets)) (number_decided.known.judge octets))

-- ---- words of a table

module _ {V : Type 0} (table : List (Named V)) where
  search_word : Searches (IsWordOf table)
  search_word octets R decide = decide_by to from (decide_entry table (λ e. (map upper octets ≡ e.word) × R e.says) (λ e. decide_both (decide_same_list (map upper octets) e.word) (decide e.says)))
    where
      to : (e : Named V) × Contains table e × ((map upper octets ≡ e.word) × R e.says) → (v : V) × IsWordOf table octets v × R v
      to s = (s.0.says, record { entry = s.0; known = s.1; word = s.2.0; says = refl }, s.2.1)

      from : (v : V) × IsWordOf table octets v × R v → (e : Named V) × Contains table e × ((map upper octets ≡ e.word) × R e.says)
      from s = (s.1.entry, s.1.known, (s.1.word, subst R s.1.says s.2))

  decide_begun : (front : List ℕ) → Dec (SomeBegins table front)
  decide_begun front = decide_by (λ s. (s.0, s.2.0, s.1, s.2.1)) (λ s. (s.0, s.2, (s.1, s.3))) (decide_entry table (λ e. (rest : List ℕ) × (e.word ≡ front ++ rest)) (λ e. decide_begins front e.word))

  begun_of : (octets : List ℕ) → IsViable (IsWordOf table) octets → SomeBegins table (map upper octets)
  begun_of octets viable = let is = viable.is_word in (is.entry, map upper viable.rest, is.known, sym is.word ∙ map-append upper octets viable.rest)

  pub word_decided : IsTable table → Decided (IsWordOf table)
  word_decided t = record {
    known = record { search = search_word; judge = λ octets. decide_by (front_viable table octets t) (begun_of octets) (decide_begun (map upper octets)) };
    some = word_viable table t;
  }
