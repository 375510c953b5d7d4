-- The steps of reading a quoted string.
use Rattle.std.proofs.Common.{◌≡◌, ℕ, ◌<◌, ◌≤◌, Bool, true, List, [], ◌∷◌, ◌++◌, length, inl, inr, refl, sym, ap, ◌∙◌, subst, append_assoc, append-nil, arith}
use Rattle.std.proofs.lemmas.Bool.Decides.{nat_tests}
use Rattle.std.proofs.lemmas.Grind.{common_steps}
use Rattle.std.proofs.lemmas.List.Concat.{flat_map-cons}
use Rattle.std.proofs.lemmas.List.Elements.{All-nil, All-cons, All-head, All-tail}
use Rattle.std.specs.List.{All, flat_map}
use Rattle.imap_words.specs.Languages.{Then, After, Or, Is, IsOctet, SaysItself, IsViable}
use Rattle.imap_words.specs.Reading.{never, Reads, StopsReading, FailsAt}
use Rattle.imap_words.specs.declared.stop.Stop.{Stop}
use Rattle.imap_words.specs.declared.stop.Stop.TheVariants.{More}
use Rattle.imap_words.specs.Going.{Continues}
use Rattle.imap_words.specs.Tokens.{IsDoubleQuote, is_quoted_special, is_quoted_text}
use Rattle.imap_words.specs.Strings.{QuotedChar, text, escaped, high, IsQuotedChar, quoted_spelling, quoted_octets, IsQuoted, IsSpecial, IsOneQuoted, PutsSaid, IsHighChar}
use Rattle.imap_words.proofs.Passing.{no_octets}
use Rattle.imap_words.proofs.Composing.{NeverAt, fails_first}
use Rattle.imap_words.proofs.Going.{onwards, and_then, never_avoids, ends_at, is_reads, left_continues, right_continues, then_never, same_continues, Within}
use Rattle.imap_words.proofs.Choosing.{seq_never, octet_at, octet_reads}
use Rattle.imap_words.proofs.Starting.{same_at}
use Rattle.imap_words.proofs.HighSteps.{high_never}

-- ---- a character

pub quote_is_no_text : is_quoted_text 34 ≡ true → ⊥
unfolding is_quoted_text
quote_is_no_text e = cc e

backslash_is_no_text : is_quoted_text 92 ≡ true → ⊥
unfolding is_quoted_text
backslash_is_no_text e = cc e

text_is_low : (x : ℕ) → is_quoted_text x ≡ true → x < 128
unfolding is_quoted_text
text_is_low x e = grind (arith, common_steps, nat_tests, e)

pub letter_is_text : is_quoted_text 97 ≡ true
unfolding is_quoted_text
letter_is_text = refl

module _ (utf8 : Bool) where
  -- which octets begin none
  pub one_never : (x : ℕ) → (is_quoted_text x ≡ true → ⊥) → (x ≡ 92 → ⊥) → (utf8 ≡ true → 194 ≤ x → x ≤ 244 → ⊥) → NeverAt (IsOneQuoted utf8) x
  one_never x no_text no_escape no_high a b v more is e = by_item is.item is.is (ap (λ z. z ++ b) (sym is.spelled) ∙ e)
    where
      by_item : (item : QuotedChar) → IsQuotedChar utf8 item → quoted_spelling item ++ b ≡ x ∷ more → ⊥
      by_item (text y) is same = let at : y ≡ x = cc same in no_text (subst (λ z. is_quoted_text z ≡ true) at is)
      by_item (escaped y) is same = no_escape (cc same)
      by_item (high octets) is same = high_never x (no_high is.0) octets b is.1.0 more is.1.1 same

  pub one_viable : IsViable (IsOneQuoted utf8) []
  one_viable = record { rest = 97 ∷ []; value = 97 ∷ []; is_word = record { item = text 97; is = letter_is_text; spelled = refl; value_is = refl } }

  pub one_more : (octets : List ℕ) → length octets ≡ 0 → IsViable (IsOneQuoted utf8) octets
  one_more octets e = subst (λ z. IsViable (IsOneQuoted utf8) z) (sym (no_octets octets e)) one_viable

  pub one_fails : (octets : List ℕ) (x : ℕ) (xs : List ℕ) → octets ≡ x ∷ xs → (is_quoted_text x ≡ true → ⊥) → (x ≡ 92 → ⊥) → (utf8 ≡ true → 194 ≤ x → x ≤ 244 → ⊥) → FailsAt (IsOneQuoted utf8) never octets (length octets)
  one_fails octets x xs e no_text no_escape no_high = rw e (fails_first (IsOneQuoted utf8) never x xs one_viable (one_never x no_text no_escape no_high))

  text_reads : (x : ℕ) (xs : List ℕ) → is_quoted_text x ≡ true → Reads (IsOneQuoted utf8) never (x ∷ xs) (x ∷ []) xs
  text_reads x xs is_text = record {
    word = x ∷ [];
    whole = refl;
    is_word = record { item = text x; is = is_text; spelled = refl; value_is = refl };
    only = λ more a b w is on e. inl (by_item a w b more is.item is.is is.spelled is.value_is (ap (λ z. z ++ b) (sym is.spelled) ∙ e));
  }
    where
      by_item : (a w b more : List ℕ) (item : QuotedChar) → IsQuotedChar utf8 item → a ≡ quoted_spelling item → w ≡ quoted_octets item → quoted_spelling item ++ b ≡ x ∷ more → (a ≡ x ∷ []) × (w ≡ x ∷ [])
      by_item a w b more (text y) is s v same = let at : y ≡ x = cc same in (s ∙ ap (λ z. z ∷ []) at, v ∙ ap (λ z. z ∷ []) at)
      by_item a w b more (escaped y) is s v same = let at : x ≡ 92 = cc same in absurd (backslash_is_no_text (subst (λ z. is_quoted_text z ≡ true) at is_text))
      by_item a w b more (high octets) is s v same = absurd (high_never x (λ l _. omega (arith, l, text_is_low x is_text)) octets b is.1.0 more is.1.1 same)

  -- after a backslash
  escape_continues : (xs : List ℕ) → Continues (IsOneQuoted utf8) (92 ∷ xs) IsSpecial xs
  escape_continues xs = onwards (same_at (IsOneQuoted utf8) (After (IsOctet 92) IsSpecial) 92 xs into out) (octet_reads 92 xs) (λ _. never_avoids _)
    where
      by_item : (a w b more : List ℕ) (item : QuotedChar) → IsQuotedChar utf8 item → a ≡ quoted_spelling item → w ≡ quoted_octets item → quoted_spelling item ++ b ≡ 92 ∷ more → After (IsOctet 92) IsSpecial a w
      by_item a w b more (text y) is s v same = let at : y ≡ 92 = cc same in absurd (backslash_is_no_text (subst (λ z. is_quoted_text z ≡ true) at is))
      by_item a w b more (escaped y) is s v same = record { value = 92; front = 92 ∷ []; back = y ∷ []; whole = s; first = (refl, refl); second = record { octet = y; is = refl; value_is = v; special = is } }
      by_item a w b more (high octets) is s v same = absurd (high_never 92 (λ l _. omega (arith, l)) octets b is.1.0 more is.1.1 same)

      into : (a b w more : List ℕ) → IsOneQuoted utf8 a w → a ++ b ≡ 92 ∷ more → After (IsOctet 92) IsSpecial a w
      into a b w more is e = by_item a w b more is.item is.is is.spelled is.value_is (ap (λ z. z ++ b) (sym is.spelled) ∙ e)

      out : Within (After (IsOctet 92) IsSpecial) (IsOneQuoted utf8)
      out a w is = record {
        item = escaped is.second.octet;
        is = is.second.special;
        spelled = is.whole ∙ (ap (λ z. z ++ is.back) is.first.0 ∙ ap (λ z. 92 ∷ z) is.second.is);
        value_is = is.second.value_is;
      }

  pub escape_stops : (octets : List ℕ) (x : ℕ) (xs : List ℕ) (stop : Stop) → octets ≡ x ∷ xs → x ≡ 92 → StopsReading IsSpecial never xs stop → StopsReading (IsOneQuoted utf8) never octets stop
  escape_stops octets x xs stop e at stops = subst (λ z. StopsReading (IsOneQuoted utf8) never z stop) (sym (e ∙ ap (λ z. z ∷ xs) at)) ((escape_continues xs).stops never stop stops)

  pub text_says : (octets : List ℕ) (x : ℕ) (xs before after : List ℕ) → octets ≡ x ∷ xs → is_quoted_text x ≡ true → after ≡ before ++ x ∷ [] → PutsSaid (IsOneQuoted utf8) octets xs before after
  text_says octets x xs before after e is put = record { said = x ∷ []; reads = subst (λ z. Reads (IsOneQuoted utf8) never z (x ∷ []) xs) (sym e) (text_reads x xs is); put = put }

  pub escape_says : (octets : List ℕ) (x : ℕ) (xs rest before after : List ℕ) → octets ≡ x ∷ xs → x ≡ 92 → PutsSaid IsSpecial xs rest before after → PutsSaid (IsOneQuoted utf8) octets rest before after
  escape_says octets x xs rest before after e at says =
      record { said = says.said; reads = subst (λ z. Reads (IsOneQuoted utf8) never z says.said rest) (sym (e ∙ ap (λ z. z ∷ xs) at)) ((escape_continues xs).reads never says.said rest says.reads); put = says.put }

  -- a character above 127
  high_continues : (x : ℕ) (xs : List ℕ) → utf8 ≡ true → 128 ≤ x → Continues (IsOneQuoted utf8) (x ∷ xs) (SaysItself IsHighChar) (x ∷ xs)
  high_continues x xs mode above = same_at (IsOneQuoted utf8) (SaysItself IsHighChar) x xs into out
    where
      by_item : (a w b more : List ℕ) (item : QuotedChar) → IsQuotedChar utf8 item → a ≡ quoted_spelling item → w ≡ quoted_octets item → quoted_spelling item ++ b ≡ x ∷ more → SaysItself IsHighChar a w
      by_item a w b more (text y) is s v same = let at : y ≡ x = cc same in absurd (omega (arith, text_is_low y is, at, above))
      by_item a w b more (escaped y) is s v same = let at : x ≡ 92 = cc same in absurd (omega (arith, at, above))
      by_item a w b more (high octets) is s v same = record { says = is.1.0; is_word = subst (λ z. IsHighChar z is.1.0) (sym s) is.1.1; same = v ∙ sym s }

      into : (a b w more : List ℕ) → IsOneQuoted utf8 a w → a ++ b ≡ x ∷ more → SaysItself IsHighChar a w
      into a b w more is e = by_item a w b more is.item is.is is.spelled is.value_is (ap (λ z. z ++ b) (sym is.spelled) ∙ e)

      out : Within (SaysItself IsHighChar) (IsOneQuoted utf8)
      out a w is = record { item = high a; is = (mode, (is.says, is.is_word)); spelled = refl; value_is = is.same }

  pub high_stops : (octets : List ℕ) (x : ℕ) (xs : List ℕ) (stop : Stop) → octets ≡ x ∷ xs → utf8 ≡ true → 128 ≤ x → StopsReading (SaysItself IsHighChar) never octets stop → StopsReading (IsOneQuoted utf8) never octets stop
  high_stops octets x xs stop e mode above stops =
      subst (λ z. StopsReading (IsOneQuoted utf8) never z stop) (sym e) ((high_continues x xs mode above).stops never stop (subst (λ z. StopsReading (SaysItself IsHighChar) never z stop) e stops))

  pub high_says : (octets : List ℕ) (x : ℕ) (xs said rest before after : List ℕ) → octets ≡ x ∷ xs → utf8 ≡ true → 128 ≤ x → Reads (SaysItself IsHighChar) never octets said rest → after ≡ before ++ said → PutsSaid (IsOneQuoted utf8) octets rest before after
  high_says octets x xs said rest before after e mode above r put = record {
    said = said;
    reads = subst (λ z. Reads (IsOneQuoted utf8) never z said rest) (sym e) ((high_continues x xs mode above).reads never said rest (subst (λ z. Reads (SaysItself IsHighChar) never z said rest) e r));
    put = put;
  }

-- ---- an escaped octet

pub special_viable : IsViable IsSpecial []
special_viable = record { rest = 34 ∷ []; value = 34 ∷ []; is_word = record { octet = 34; is = refl; value_is = refl; special = refl } }

pub special_more : (octets : List ℕ) → length octets ≡ 0 → IsViable IsSpecial octets
special_more octets e = subst (λ z. IsViable IsSpecial z) (sym (no_octets octets e)) special_viable

pub special_fails : (octets : List ℕ) (x : ℕ) (xs : List ℕ) → octets ≡ x ∷ xs → (is_quoted_special x ≡ true → ⊥) → FailsAt IsSpecial never octets (length octets)
special_fails octets x xs e none = rw e (fails_first IsSpecial never x xs special_viable at)
  where
    at : NeverAt IsSpecial x
    at a b v more is e = let same : is.octet ≡ x = cc (ap (λ z. z ++ b) (sym is.is) ∙ e) in none (subst (λ z. is_quoted_special z ≡ true) same is.special)

pub special_says : (octets : List ℕ) (x : ℕ) (xs before after : List ℕ) → octets ≡ x ∷ xs → is_quoted_special x ≡ true → after ≡ before ++ x ∷ [] → PutsSaid IsSpecial octets xs before after
special_says octets x xs before after e special put = record {
  said = x ∷ [];
  reads = record {
    word = x ∷ [];
    whole = e;
    is_word = record { octet = x; is = refl; value_is = refl; special = special };
    only = λ more a b w is on e.
        let same : is.octet ≡ x = cc (ap (λ z. z ++ b) (sym is.is) ∙ e) in
        inl (is.is ∙ ap (λ z. z ∷ []) same, is.value_is ∙ ap (λ z. z ∷ []) same);
  };
  put = put;
}

-- more characters, and the quote that ends the string
abbrev pub AreRest : Bool → List ℕ → List ℕ → List QuotedChar → Type 0
AreRest utf8 octets value [] = (octets ≡ 34 ∷ []) × (value ≡ [])
AreRest utf8 octets value (item ∷ items) =
    (back rest : List ℕ) × IsQuotedChar utf8 item × (octets ≡ quoted_spelling item ++ back) × (value ≡ quoted_octets item ++ rest) × AreRest utf8 back rest items

-- after those that said this
abbrev pub IsRestQuoted : Bool → List ℕ → List ℕ → List ℕ → Type 0
IsRestQuoted utf8 begun octets value = (more : List ℕ) × (items : List QuotedChar) × (value ≡ begun ++ more) × AreRest utf8 octets more items

abbrev pub Closing : List ℕ → List ℕ → List ℕ → Type 0
Closing begun = After IsDoubleQuote (Is begun)

abbrev pub Further : Bool → List ℕ → List ℕ → List ℕ → Type 0
Further utf8 begun = Then (IsOneQuoted utf8) (λ said. IsRestQuoted utf8 (begun ++ said))

module _ (utf8 : Bool) where
  pub to_step : (begun : List ℕ) → Within (IsRestQuoted utf8 begun) (Or (Closing begun) (Further utf8 begun))
  to_step begun octets value has = by_items has.0 has.1 has.2 has.3
    where
      by_items : (more : List ℕ) (items : List QuotedChar) → value ≡ begun ++ more → AreRest utf8 octets more items → Or (Closing begun) (Further utf8 begun) octets value
      by_items more [] e is = inl (record { value = 34; front = 34 ∷ []; back = []; whole = is.0; first = (refl, refl); second = (refl, e ∙ (ap (λ z. begun ++ z) is.1 ∙ append-nil begun)) })
      by_items more (item ∷ items) e is = inr (record {
        value = quoted_octets item;
        front = quoted_spelling item;
        back = is.0;
        whole = is.3;
        first = record { item = item; is = is.2; spelled = refl; value_is = refl };
        second = (is.1, items, e ∙ (ap (λ z. begun ++ z) is.4 ∙ sym (append_assoc begun (quoted_octets item) is.1)), is.5);
      })

  pub from_step : (begun : List ℕ) → Within (Or (Closing begun) (Further utf8 begun)) (IsRestQuoted utf8 begun)
  from_step begun octets value (inl ends) = ([], [], ends.second.1 ∙ sym (append-nil begun), (ends.whole ∙ (ap (λ z. z ++ ends.back) ends.first.0 ∙ ap (λ z. 34 ∷ z) ends.second.0), refl))
  from_step begun octets value (inr goes) =
      let one = goes.first in
      let rest = goes.second in (
        quoted_octets one.item ++ rest.0,
        one.item ∷ rest.1,
        rest.2 ∙ (ap (λ z. (begun ++ z) ++ rest.0) one.value_is ∙ append_assoc begun (quoted_octets one.item) rest.0),
        (goes.back, rest.0, one.is, goes.whole ∙ ap (λ z. z ++ goes.back) one.spelled, refl, rest.3),
      )

  step_continues : (begun octets : List ℕ) → Continues (IsRestQuoted utf8 begun) octets (Or (Closing begun) (Further utf8 begun)) octets
  step_continues begun octets = same_continues _ _ octets (to_step begun) (from_step begun)

  pub rest_viable : (begun : List ℕ) → IsViable (IsRestQuoted utf8 begun) []
  rest_viable begun = record { rest = 34 ∷ []; value = begun; is_word = ([], [], sym (append-nil begun), (refl, refl)) }

  -- ---- the string is a quote and these

  rest_of : (items : List QuotedChar) → All (IsQuotedChar utf8) items → AreRest utf8 (flat_map quoted_spelling items ++ 34 ∷ []) (flat_map quoted_octets items) items
  rest_of [] each = (refl, refl)
  rest_of (item ∷ items) each = (
    flat_map quoted_spelling items ++ 34 ∷ [],
    flat_map quoted_octets items,
    All-head (IsQuotedChar utf8) item items each,
    ap (λ z. z ++ 34 ∷ []) (flat_map-cons quoted_spelling item items) ∙ append_assoc (quoted_spelling item) (flat_map quoted_spelling items) (34 ∷ []),
    flat_map-cons quoted_octets item items,
    rest_of items (All-tail (IsQuotedChar utf8) item items each),
  )

  of_rest : (items : List QuotedChar) (octets value : List ℕ) → AreRest utf8 octets value items → All (IsQuotedChar utf8) items × (octets ≡ flat_map quoted_spelling items ++ 34 ∷ []) × (value ≡ flat_map quoted_octets items)
  of_rest [] octets value is = (All-nil (IsQuotedChar utf8), is.0, is.1)
  of_rest (item ∷ items) octets value is =
      let tail = of_rest items is.0 is.1 is.5 in (
        All-cons (IsQuotedChar utf8) item items is.2 tail.0,
        is.3 ∙ (ap (λ z. quoted_spelling item ++ z) tail.1 ∙ (sym (append_assoc (quoted_spelling item) (flat_map quoted_spelling items) (34 ∷ [])) ∙ sym (ap (λ z. z ++ 34 ∷ []) (flat_map-cons quoted_spelling item items)))),
        is.4 ∙ (ap (λ z. quoted_octets item ++ z) tail.2 ∙ sym (flat_map-cons quoted_octets item items)),
      )

  pub to_rest : Within (IsQuoted utf8) (After IsDoubleQuote (IsRestQuoted utf8 []))
  to_rest octets value is = record {
    value = 34;
    front = 34 ∷ [];
    back = flat_map quoted_spelling is.items ++ 34 ∷ [];
    whole = is.spelled;
    first = (refl, refl);
    second = (value, is.items, refl, subst (λ z. AreRest utf8 (flat_map quoted_spelling is.items ++ 34 ∷ []) z is.items) (sym is.value_is) (rest_of is.items is.each));
  }

  pub from_rest : Within (After IsDoubleQuote (IsRestQuoted utf8 [])) (IsQuoted utf8)
  from_rest octets value is =
      let rest = is.second in
      let items = of_rest rest.1 is.back rest.0 rest.3 in
      record { items = rest.1; each = items.0; spelled = is.whole ∙ (ap (λ z. z ++ is.back) is.first.0 ∙ ap (λ z. 34 ∷ z) items.1); value_is = rest.2 ∙ items.2 }

  pub quoted_continues : (octets : List ℕ) → Continues (IsQuoted utf8) octets (After IsDoubleQuote (IsRestQuoted utf8 [])) octets
  quoted_continues octets = same_continues _ _ octets to_rest from_rest

  -- ---- the steps

  pub quote_never : NeverAt (IsOneQuoted utf8) 34
  quote_never = one_never utf8 34 quote_is_no_text (λ e. omega (arith, e)) (λ _ l. omega (arith, l))

  pub quoted_ends : (octets rest begun : List ℕ) (x : ℕ) (others : List ℕ) → Continues (IsQuoted utf8) octets (IsRestQuoted utf8 begun) rest → rest ≡ x ∷ others → x ≡ 34 → Reads (IsQuoted utf8) never octets begun others
  quoted_ends octets rest begun x others so e quote =
      let at : rest ≡ 34 ∷ others = e ∙ ap (λ z. z ∷ others) quote in
      let closing : Continues (IsRestQuoted utf8 begun) rest (Closing begun) rest
      = subst (λ z. Continues (IsRestQuoted utf8 begun) z (Closing begun) z) (sym at) (and_then _ _ _ _ _ _ (step_continues begun (34 ∷ others)) (left_continues (Closing begun) (Further utf8 begun) 34 others (seq_never (IsOneQuoted utf8) _ 34 quote_never))) in
      (onwards (and_then _ _ _ _ _ _ so closing) (octet_at rest x 34 others e quote) (λ _. never_avoids _)).reads never begun others (is_reads begun others)

  further : (octets rest begun : List ℕ) (x : ℕ) (others : List ℕ) → Continues (IsQuoted utf8) octets (IsRestQuoted utf8 begun) rest → rest ≡ x ∷ others → (x ≡ 34 → ⊥) → Continues (IsQuoted utf8) octets (Further utf8 begun) rest
  further octets rest begun x others so e other =
      and_then _ _ _ _ _ _ so (subst (λ z. Continues (IsRestQuoted utf8 begun) z (Further utf8 begun) z) (sym e)
      (and_then _ _ _ _ _ _ (step_continues begun (x ∷ others)) (right_continues (Closing begun) (Further utf8 begun) x others (then_never 34 x (λ _. Is begun) other))))

  pub further_stops : (octets rest begun : List ℕ) (x : ℕ) (others : List ℕ) (stop : Stop) → Continues (IsQuoted utf8) octets (IsRestQuoted utf8 begun) rest → rest ≡ x ∷ others → (x ≡ 34 → ⊥)
      → StopsReading (IsOneQuoted utf8) never rest stop → StopsReading (IsQuoted utf8) never octets stop
  further_stops octets rest begun x others stop so e other stops = ends_at never never stop (further octets rest begun x others so e other) stops (λ _. never_avoids _) (λ said. rest_viable (begun ++ said))

  pub further_reads : (octets rest begun : List ℕ) (x : ℕ) (others following after : List ℕ) → Continues (IsQuoted utf8) octets (IsRestQuoted utf8 begun) rest → rest ≡ x ∷ others → (x ≡ 34 → ⊥)
      → PutsSaid (IsOneQuoted utf8) rest following begun after → Continues (IsQuoted utf8) octets (IsRestQuoted utf8 after) following
  further_reads octets rest begun x others following after so e other says =
      subst (λ z. Continues (IsQuoted utf8) octets (IsRestQuoted utf8 z) following) (sym says.put) (onwards (further octets rest begun x others so e other) says.reads (λ _. never_avoids _))

  pub quoted_open : (octets rest begun : List ℕ) → Continues (IsQuoted utf8) octets (IsRestQuoted utf8 begun) rest → length rest ≡ 0 → StopsReading (IsQuoted utf8) never octets More
  quoted_open octets rest begun so e = so.stops never More (subst (λ z. IsViable (IsRestQuoted utf8 begun) z) (sym (no_octets rest e)) (rest_viable begun))
