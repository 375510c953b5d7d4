-- The steps of reading a field's name in quotes, or the header of a literal that is one.
use Rattle.std.proofs.Common.{◌≡◌, ℕ, zero, suc, ◌+◌, ◌-◌, ◌*◌, ◌<◌, Bool, true, false, List, [], ◌∷◌, ◌++◌, length, inl, inr, refl, sym, ap, ◌∙◌, subst, append_assoc, append-nil, length-append, arith}
use Rattle.std.proofs.lemmas.Bool.{and_parts, and_from, both_ways}
use Rattle.std.proofs.lemmas.Bool.Decides.{nat_tests}
use Rattle.std.proofs.lemmas.Grind.{common_steps}
use Rattle.std.specs.Prelude.{IsTrue, ◌↔◌}
use Rattle.std.specs.List.{list_all}
use Rattle.imap_words.specs.Languages.{Then, After, Or, Is, IsOctet, IsViable}
use Rattle.imap_words.specs.Reading.{always, never, Reads, StopsReading, FailsAt}
use Rattle.imap_words.specs.declared.stop.Stop.{Stop}
use Rattle.imap_words.specs.declared.stop.Stop.TheVariants.{More, Bad, Memory}
use Rattle.imap_words.specs.Going.{Continues}
use Rattle.imap_words.specs.Tokens.{IsNumber32, IsCrlf, IsRunOf, IsDoubleQuote, is_digit, is_name_char, is_quoted_special, is_quoted_text}
use Rattle.imap_words.specs.Strings.{QuotedChar, text, escaped, high, IsQuotedChar, quoted_spelling, quoted_octets, IsOneQuoted, PutsSaid, IsPositive, IsNameHeader, IsQuotedName}
use Rattle.imap_words.proofs.Passing.{no_octets, all_append, all_join}
use Rattle.imap_words.proofs.Composing.{NeverAt, fails_first}
use Rattle.imap_words.proofs.TokenSteps.{all_push, number_viable, decimal_append}
use Rattle.imap_words.proofs.Going.{onwards, and_then, never_avoids, is_reads, same_continues, then_never, then_viable, Within}
use Rattle.imap_words.proofs.Choosing.{octet_at}
use Rattle.imap_words.proofs.HeaderSteps.{size_closes}
use Rattle.imap_words.proofs.Starting.{same_at}
use Rattle.imap_words.proofs.QuotedSteps.{IsRestQuoted, Closing, Further, to_step, from_step, to_rest, from_rest, letter_is_text, quote_is_no_text, quote_never}

pub empty_is : (xs : List ℕ) (b : Bool) → (IsTrue b ↔ (xs ≡ [])) → b ≡ true → length xs ≡ 0
empty_is xs b iff e = ap length (iff.0 e)

pub not_empty_is : (xs : List ℕ) (b : Bool) → (IsTrue b ↔ (xs ≡ [])) → b ≡ false → length xs ≡ 0 → ⊥
not_empty_is xs b iff e none = both_ways b e (iff.1 (no_octets xs none))

-- ---- a number above 0

one_is_digit : is_digit 49 ≡ true
unfolding is_digit
one_is_digit = refl

after_zeros : (front : List ℕ) → IsNumber32 front 0 → IsViable IsPositive front
after_zeros front is = record {
  rest = 49 ∷ [];
  value = 1;
  is_word = record {
    is_number = record {
      some = rw (length-append front (49 ∷ [])) (omega arith);
      digits = all_push is_digit front 49 is.digits one_is_digit;
      value_is = ap (λ n. n * 10 + (49 - 48)) is.value_is ∙ sym (decimal_append 0 front (49 ∷ []));
      bound = omega arith;
    };
    some = omega arith;
  };
}

positive_with : (front : List ℕ) → IsViable IsNumber32 front → IsViable IsPositive front
positive_with front viable = by_value viable.value viable.is_word
  where
    by_value : (v : ℕ) → IsNumber32 (front ++ viable.rest) v → IsViable IsPositive front
    by_value zero is =
        let more = after_zeros (front ++ viable.rest) is in
        record { rest = viable.rest ++ more.rest; value = more.value; is_word = subst (λ z. IsPositive z more.value) (append_assoc front viable.rest more.rest) more.is_word }
    by_value (suc v) is = record { rest = viable.rest; value = suc v; is_word = record { is_number = is; some = omega arith } }

pub positive_stops : (octets : List ℕ) (stop : Stop) → StopsReading IsNumber32 (always is_digit) octets stop → StopsReading IsPositive (always is_digit) octets stop
positive_stops octets More viable = positive_with octets viable
positive_stops octets (Bad left) fails = record {
  front = fails.front;
  octet = fails.octet;
  back = fails.back;
  whole = fails.whole;
  left_is = fails.left_is;
  viable = positive_with fails.front fails.viable;
  hopeless = λ more a b w is e. fails.hopeless more a b w is.is_number e;
}
positive_stops octets Memory stops = tt

pub positive_reads : (octets rest : List ℕ) (v : ℕ) → Reads IsNumber32 (always is_digit) octets v rest → (v ≡ 0 → ⊥) → Reads IsPositive (always is_digit) octets v rest
positive_reads octets rest v r some = record {
  word = r.word;
  whole = r.whole;
  is_word = record { is_number = r.is_word; some = above v some };
  only = λ more a b w is on e. r.only more a b w is.is_number on e;
}
  where
    above : (n : ℕ) → (n ≡ 0 → ⊥) → 0 < n
    above zero none = absurd (none refl)
    above (suc n) none = omega arith

pub zero_open : (octets rest : List ℕ) (v : ℕ) → Reads IsNumber32 (always is_digit) octets v rest → v ≡ 0 → length rest ≡ 0 → IsViable IsPositive octets
zero_open octets rest v r is_zero none =
    let all : octets ≡ r.word = r.whole ∙ (ap (λ z. r.word ++ z) (no_octets rest none) ∙ append-nil r.word) in
    subst (λ z. IsViable IsPositive z) (sym all) (after_zeros r.word (subst (λ z. IsNumber32 r.word z) is_zero r.is_word))

pub zero_stops : (octets rest : List ℕ) (v : ℕ) → Reads IsNumber32 (always is_digit) octets v rest → v ≡ 0 → (length rest ≡ 0 → ⊥) → FailsAt IsPositive (always is_digit) octets (length rest)
zero_stops octets [] v r is_zero some = absurd (some refl)
zero_stops octets (y ∷ back) v r is_zero some = record {
  front = r.word;
  octet = y;
  back = back;
  whole = r.whole;
  left_is = refl;
  viable = after_zeros r.word (subst (λ z. IsNumber32 r.word z) is_zero r.is_word);
  hopeless = λ more a b w is e. elim (r.only (y ∷ more) a b w is.is_number refl e) [
    | inl same ↦ absurd (omega (arith, is.some, same.1, is_zero))
    | inr begin ↦ begin
  ];
}

-- ---- the header

abbrev pub IsRestHeader : List ℕ → ℕ → Type 0
IsRestHeader = Then IsPositive (λ n. After (IsOctet 125) (After IsCrlf (Is n)))

to_header : Within IsNameHeader (After (IsOctet 123) IsRestHeader)
to_header octets v is =
    let h = is.is_header in
    let n = h.second in
    record {
      value = h.value;
      front = h.front;
      back = h.back;
      whole = h.whole;
      first = h.first;
      second = record { value = n.value; front = n.front; back = n.back; whole = n.whole; first = record { is_number = n.first; some = subst (λ z. 0 < z) n.second.second.second.1 is.some }; second = n.second };
    }

from_header : Within (After (IsOctet 123) IsRestHeader) IsNameHeader
from_header octets v is =
    let n = is.second in
    record {
      is_header = record { value = is.value; front = is.front; back = is.back; whole = is.whole; first = is.first; second = record { value = n.value; front = n.front; back = n.back; whole = n.whole; first = n.first.is_number; second = n.second } };
      some = subst (λ z. 0 < z) (sym n.second.second.second.1) n.first.some;
    }

pub header_begins : (octets : List ℕ) → Continues IsNameHeader octets (After (IsOctet 123) IsRestHeader) octets
header_begins octets = same_continues IsNameHeader (After (IsOctet 123) IsRestHeader) octets to_header from_header

pub positive_viable : IsViable IsPositive []
positive_viable = positive_with [] number_viable

pub rest_header_viable : IsViable IsRestHeader []
rest_header_viable = then_viable IsPositive _ positive_viable size_closes

pub name_header_viable : IsViable IsNameHeader []
name_header_viable = record { rest = 123 ∷ rest_header_viable.rest; value = rest_header_viable.value; is_word = from_header _ _ (record { value = 123; front = 123 ∷ []; back = rest_header_viable.rest; whole = refl; first = (refl, refl); second = rest_header_viable.is_word }) }

pub name_header_never : (x : ℕ) → (x ≡ 123 → ⊥) → NeverAt IsNameHeader x
name_header_never x other a b v more is e = then_never 123 x (λ _. IsRestHeader) other a b v more (to_header a v is) e

pub quoted_name_never : (x : ℕ) → (x ≡ 34 → ⊥) → NeverAt IsQuotedName x
quoted_name_never x other a b v more is e = other (cc (sym (ap (λ z. z ++ b) is.is_quoted.spelled) ∙ e))

-- ---- characters of a name in quotes

letter_is_name : is_name_char 97 ≡ true
unfolding is_name_char
letter_is_name = refl

special_is_name : (x : ℕ) → is_quoted_special x ≡ true → is_name_char x ≡ true
unfolding is_name_char
special_is_name x e = grind (arith, common_steps, nat_tests, e)

pub record IsOneName (octets value : List ℕ) : Type 0 where
  pub is_one : IsOneQuoted false octets value
  pub is_name : list_all is_name_char value ≡ true

all_one : (x : ℕ) → is_name_char x ≡ true → list_all is_name_char (x ∷ []) ≡ true
all_one x e = and_from (is_name_char x) true e refl

-- what a character says whose first octet may stand in a name
says_name : (x : ℕ) (more b : List ℕ) (item : QuotedChar) → IsQuotedChar false item → quoted_spelling item ++ b ≡ x ∷ more → is_name_char x ≡ true → list_all is_name_char (quoted_octets item) ≡ true
says_name x more b (text y) is e may = let same : y ≡ x = cc e in all_one y (subst (λ z. is_name_char z ≡ true) (sym same) may)
says_name x more b (escaped y) is e may = all_one y (special_is_name y is)
says_name x more b (high octets) is e may = absurd (both_ways false refl is.0)

one_says_name : (x : ℕ) (more a b v : List ℕ) → IsOneQuoted false a v → a ++ b ≡ x ∷ more → is_name_char x ≡ true → IsOneName a v
one_says_name x more a b v is e may = record { is_one = is; is_name = subst (λ z. list_all is_name_char z ≡ true) (sym is.value_is) (says_name x more b is.item is.is (ap (λ z. z ++ b) (sym is.spelled) ∙ e) may) }

one_name_viable : IsViable IsOneName []
one_name_viable = record { rest = 97 ∷ []; value = 97 ∷ []; is_word = record { is_one = record { item = text 97; is = letter_is_text; spelled = refl; value_is = refl }; is_name = all_one 97 letter_is_name } }

name_with : (x : ℕ) (xs front back : List ℕ) → x ∷ xs ≡ front ++ back → is_name_char x ≡ true → IsViable (IsOneQuoted false) front → IsViable IsOneName front
name_with x xs [] back e may viable = one_name_viable
name_with x xs (y ∷ front) back e may viable =
    let same : y ≡ x = cc e in
    let all : ((y ∷ front) ++ viable.rest) ++ [] ≡ x ∷ (front ++ viable.rest) = append-nil ((y ∷ front) ++ viable.rest) ∙ ap (λ z. z ∷ (front ++ viable.rest)) same in
    record { rest = viable.rest; value = viable.value; is_word = one_says_name x (front ++ viable.rest) ((y ∷ front) ++ viable.rest) [] viable.value viable.is_word all may }

name_stops : (octets : List ℕ) (x : ℕ) (xs : List ℕ) (stop : Stop) → octets ≡ x ∷ xs → is_name_char x ≡ true → StopsReading (IsOneQuoted false) never octets stop → StopsReading IsOneName never octets stop
name_stops octets x xs More e may viable = name_with x xs octets [] (sym (append-nil octets ∙ e)) may viable
name_stops octets x xs (Bad left) e may fails = record {
  front = fails.front;
  octet = fails.octet;
  back = fails.back;
  whole = fails.whole;
  left_is = fails.left_is;
  viable = name_with x xs fails.front (fails.octet ∷ fails.back) (sym e ∙ fails.whole) may fails.viable;
  hopeless = λ more a b w is same. fails.hopeless more a b w is.is_one same;
}
name_stops octets x xs Memory e may stops = tt

name_reads : (octets rest said : List ℕ) (x : ℕ) (xs : List ℕ) → octets ≡ x ∷ xs → is_name_char x ≡ true → Reads (IsOneQuoted false) never octets said rest → Reads IsOneName never octets said rest
name_reads octets rest said x xs e may r = record {
  word = r.word;
  whole = r.whole;
  is_word = one_says_name x xs r.word rest said r.is_word (sym r.whole ∙ e) may;
  only = λ more a b w is on same. r.only more a b w is.is_one on same;
}

-- ---- the rest of a name in quotes

pub record IsRestName (begun octets value : List ℕ) : Type 0 where
  pub is_rest : IsRestQuoted false begun octets value
  pub is_name : IsRunOf is_name_char value value

abbrev pub FurtherName : List ℕ → List ℕ → List ℕ → Type 0
FurtherName begun = Then IsOneName (λ said. IsRestName (begun ++ said))

pub name_begins : (octets : List ℕ) → Continues IsQuotedName octets (After IsDoubleQuote (IsRestName [])) octets
name_begins octets = same_continues IsQuotedName (After IsDoubleQuote (IsRestName [])) octets to from
  where
    to : Within IsQuotedName (After IsDoubleQuote (IsRestName []))
    to a v is =
        let q = to_rest false a v is.is_quoted in
        record { value = q.value; front = q.front; back = q.back; whole = q.whole; first = q.first; second = record { is_rest = q.second; is_name = is.is_name } }

    from : Within (After IsDoubleQuote (IsRestName [])) IsQuotedName
    from a v is = record { is_quoted = from_rest false a v (record { value = is.value; front = is.front; back = is.back; whole = is.whole; first = is.first; second = is.second.is_rest }); is_name = is.second.is_name }

pub rest_name_viable : (begun : List ℕ) → list_all is_name_char begun ≡ true → IsViable (IsRestName begun) []
rest_name_viable begun all = record {
  rest = 97 ∷ 34 ∷ [];
  value = begun ++ 97 ∷ [];
  is_word = record {
    is_rest = (97 ∷ [], text 97 ∷ [], refl, (34 ∷ [], [], letter_is_text, refl, refl, (refl, refl)));
    is_name = record { some = rw (length-append begun (97 ∷ [])) (omega arith); passes = all_push is_name_char begun 97 all letter_is_name; value_is = refl };
  };
}

-- which octets begin none
rest_name_never : (begun : List ℕ) (x : ℕ) → (x ≡ 34 → length begun ≡ 0) → ((x ≡ 34 → ⊥) → is_name_char x ≡ false) → NeverAt (IsRestName begun) x
rest_name_never begun x at_quote at_other a b v more is e = by_step (to_step false begun a v is.is_rest)
  where
    by_item : (front back : List ℕ) (item : QuotedChar) → IsQuotedChar false item → list_all is_name_char (quoted_octets item) ≡ true → quoted_spelling item ++ back ≡ x ∷ more → ⊥
    by_item front back (text y) one all same =
        let at : y ≡ x = cc same in
        let may : is_name_char x ≡ true = subst (λ z. is_name_char z ≡ true) at (and_parts (is_name_char y) true all).0 in
        both_ways (is_name_char x) (at_other (λ quote. quote_is_no_text (subst (λ z. is_quoted_text z ≡ true) (at ∙ quote) one))) may
    by_item front back (escaped y) one all same =
        let at : x ≡ 92 = cc same in
        both_ways (is_name_char 92) (subst (λ z. is_name_char z ≡ false) at (at_other (λ quote. omega (arith, at, quote)))) (special_is_name 92 refl)
    by_item front back (high octets) one all same = both_ways false refl one.0

    by_step : Or (Closing begun) (Further false begun) a v → ⊥
    by_step (inl closing) =
        let at : x ≡ 34 = cc (ap (λ z. (z ++ closing.back) ++ b) (sym closing.first.0) ∙ (ap (λ z. z ++ b) (sym closing.whole) ∙ e)) in
        let some : 0 < length begun = subst (λ z. 0 < length z) closing.second.1 is.is_name.some in
        omega (arith, some, at_quote at)
    by_step (inr further) =
        let one = further.first in
        let rest = further.second in
        let value : v ≡ begun ++ (further.value ++ rest.0) = rest.2 ∙ append_assoc begun further.value rest.0 in
        let following = (all_append is_name_char begun (further.value ++ rest.0) (subst (λ z. list_all is_name_char z ≡ true) value is.is_name.passes)).1 in
        let all = (all_append is_name_char further.value rest.0 following).0 in
        by_item further.front (further.back ++ b) one.item one.is (subst (λ z. list_all is_name_char z ≡ true) one.value_is all)
        (ap (λ z. z ++ (further.back ++ b)) (sym one.spelled) ∙ (sym (append_assoc further.front further.back b) ∙ (ap (λ z. z ++ b) (sym further.whole) ∙ e)))

module _ (begun : List ℕ) (all : list_all is_name_char begun ≡ true) where
  pub empty_fails : (octets rest : List ℕ) (x : ℕ) (others : List ℕ) → Continues IsQuotedName octets (IsRestName begun) rest → rest ≡ x ∷ others → x ≡ 34 → length begun ≡ 0 → FailsAt IsQuotedName never octets (length rest)
  empty_fails octets rest x others so e quote none =
      so.stops never (Bad (length rest)) (rw e (fails_first (IsRestName begun) never x others (rest_name_viable begun all) (rest_name_never begun x (λ _. none) (λ other. absurd (other quote)))))

  pub no_name_fails : (octets rest : List ℕ) (x : ℕ) (others : List ℕ) → Continues IsQuotedName octets (IsRestName begun) rest → rest ≡ x ∷ others → (x ≡ 34 → ⊥) → is_name_char x ≡ false → FailsAt IsQuotedName never octets (length rest)
  no_name_fails octets rest x others so e other none =
      so.stops never (Bad (length rest)) (rw e (fails_first (IsRestName begun) never x others (rest_name_viable begun all) (rest_name_never begun x (λ quote. absurd (other quote)) (λ _. none))))

  -- the quote that ends it
  closes : (others : List ℕ) → 0 < length begun → Continues (IsRestName begun) (34 ∷ others) (Closing begun) (34 ∷ others)
  closes others some = same_at (IsRestName begun) (Closing begun) 34 others into out
    where
      by_step : (a b v more : List ℕ) → a ++ b ≡ 34 ∷ more → Or (Closing begun) (Further false begun) a v → Closing begun a v
      by_step a b v more e (inl closing) = closing
      by_step a b v more e (inr further) = absurd (quote_never false further.front (further.back ++ b) further.value more further.first (sym (append_assoc further.front further.back b) ∙ (ap (λ z. z ++ b) (sym further.whole) ∙ e)))

      into : (a b v more : List ℕ) → IsRestName begun a v → a ++ b ≡ 34 ∷ more → Closing begun a v
      into a b v more is e = by_step a b v more e (to_step false begun a v is.is_rest)

      out : Within (Closing begun) (IsRestName begun)
      out a v is = record {
        is_rest = from_step false begun a v (inl is);
        is_name = subst (λ z. IsRunOf is_name_char z z) (sym is.second.1) (record { some = some; passes = all; value_is = refl });
      }

  pub name_ends : (octets rest : List ℕ) (x : ℕ) (others : List ℕ) → Continues IsQuotedName octets (IsRestName begun) rest → rest ≡ x ∷ others → x ≡ 34 → (length begun ≡ 0 → ⊥) → Reads IsQuotedName never octets begun others
  name_ends octets rest x others so e quote some =
      let at : rest ≡ 34 ∷ others = e ∙ ap (λ z. z ∷ others) quote in
      let closing : Continues (IsRestName begun) rest (Closing begun) rest = subst (λ z. Continues (IsRestName begun) z (Closing begun) z) (sym at) (closes others (above begun some)) in
      (onwards (and_then _ _ _ _ _ _ so closing) (octet_at rest x 34 others e quote) (λ _. never_avoids _)).reads never begun others (is_reads begun others)
    where
      above : (xs : List ℕ) → (length xs ≡ 0 → ⊥) → 0 < length xs
      above [] none = absurd (none refl)
      above (y ∷ xs) none = omega arith

  -- another character
  goes_further : (x : ℕ) (others : List ℕ) → (x ≡ 34 → ⊥) → Continues (IsRestName begun) (x ∷ others) (FurtherName begun) (x ∷ others)
  goes_further x others other = same_at (IsRestName begun) (FurtherName begun) x others into out
    where
      by_step : (a b v more : List ℕ) → IsRunOf is_name_char v v → a ++ b ≡ x ∷ more → Or (Closing begun) (Further false begun) a v → FurtherName begun a v
      by_step a b v more name e (inl closing) = absurd (then_never 34 x (λ _. Is begun) other a b v more closing e)
      by_step a b v more name e (inr further) =
          let rest = further.second in
          let value : v ≡ begun ++ (further.value ++ rest.0) = rest.2 ∙ append_assoc begun further.value rest.0 in
          let following = (all_append is_name_char begun (further.value ++ rest.0) (subst (λ z. list_all is_name_char z ≡ true) value name.passes)).1 in
          record {
            value = further.value;
            front = further.front;
            back = further.back;
            whole = further.whole;
            first = record { is_one = further.first; is_name = (all_append is_name_char further.value rest.0 following).0 };
            second = record { is_rest = rest; is_name = name };
          }

      into : (a b v more : List ℕ) → IsRestName begun a v → a ++ b ≡ x ∷ more → FurtherName begun a v
      into a b v more is e = by_step a b v more is.is_name e (to_step false begun a v is.is_rest)

      out : Within (FurtherName begun) (IsRestName begun)
      out a v is = record {
        is_rest = from_step false begun a v (inr (record { value = is.value; front = is.front; back = is.back; whole = is.whole; first = is.first.is_one; second = is.second.is_rest }));
        is_name = is.second.is_name;
      }

  further_at : (octets rest : List ℕ) (x : ℕ) (others : List ℕ) → Continues IsQuotedName octets (IsRestName begun) rest → rest ≡ x ∷ others → (x ≡ 34 → ⊥) → Continues IsQuotedName octets (FurtherName begun) rest
  further_at octets rest x others so e other = and_then _ _ _ _ _ _ so (subst (λ z. Continues (IsRestName begun) z (FurtherName begun) z) (sym e) (goes_further x others other))

  further_viable : (front : List ℕ) → IsViable IsOneName front → IsViable (FurtherName begun) front
  further_viable front viable =
      let more = rest_name_viable (begun ++ viable.value) (all_join is_name_char begun viable.value all viable.is_word.is_name) in
      record {
        rest = viable.rest ++ more.rest;
        value = more.value;
        is_word = record { value = viable.value; front = front ++ viable.rest; back = more.rest; whole = sym (append_assoc front viable.rest more.rest); first = viable.is_word; second = more.is_word };
      }

  further_stops : (octets : List ℕ) (stop : Stop) → StopsReading IsOneName never octets stop → StopsReading (FurtherName begun) never octets stop
  further_stops octets More viable = further_viable octets viable
  further_stops octets (Bad left) fails = record {
    front = fails.front;
    octet = fails.octet;
    back = fails.back;
    whole = fails.whole;
    left_is = fails.left_is;
    viable = further_viable fails.front fails.viable;
    hopeless = λ more a b w both e.
        absurd (never_avoids (IsRestName (begun ++ both.value)) both.back b w both.second (fails.hopeless more both.front (both.back ++ b) both.value both.first (sym (append_assoc both.front both.back b) ∙ (ap (λ z. z ++ b) (sym both.whole) ∙ e))));
  }
  further_stops octets Memory stops = tt

  pub name_char_stops : (octets rest : List ℕ) (x : ℕ) (others : List ℕ) (stop : Stop) → Continues IsQuotedName octets (IsRestName begun) rest → rest ≡ x ∷ others → (x ≡ 34 → ⊥) → is_name_char x ≡ true
      → StopsReading (IsOneQuoted false) never rest stop → StopsReading IsQuotedName never octets stop
  name_char_stops octets rest x others stop so e other may stops = (further_at octets rest x others so e other).stops never stop (further_stops rest stop (name_stops rest x others stop e may stops))

  pub name_char_reads : (octets rest : List ℕ) (x : ℕ) (others following after : List ℕ) → Continues IsQuotedName octets (IsRestName begun) rest → rest ≡ x ∷ others → (x ≡ 34 → ⊥) → is_name_char x ≡ true
      → PutsSaid (IsOneQuoted false) rest following begun after → (list_all is_name_char after ≡ true) × Continues IsQuotedName octets (IsRestName after) following
  name_char_reads octets rest x others following after so e other may says =
      let r = name_reads rest following says.said x others e may says.reads in (
        subst (λ z. list_all is_name_char z ≡ true) (sym says.put) (all_join is_name_char begun says.said all r.is_word.is_name),
        subst (λ z. Continues IsQuotedName octets (IsRestName z) following) (sym says.put) (onwards (further_at octets rest x others so e other) r (λ _. never_avoids _)),
      )

  pub name_open : (octets rest : List ℕ) → Continues IsQuotedName octets (IsRestName begun) rest → length rest ≡ 0 → StopsReading IsQuotedName never octets More
  name_open octets rest so e = so.stops never More (subst (λ z. IsViable (IsRestName begun) z) (sym (no_octets rest e)) (rest_name_viable begun all))
