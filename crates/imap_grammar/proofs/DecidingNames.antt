-- Whether octets are a field's name or a date, or can be completed to one.
use Rattle.std.proofs.Common.{◌≡◌, ℕ, zero, suc, ◌-◌, ◌<◌, ◌≤◌, Bool, true, false, List, [], ◌∷◌, ◌++◌, length, replicate, inl, inr, refl, sym, ap, ◌∙◌, subst, append-nil, length-append, arith}
use Rattle.std.proofs.lemmas.Bool.{and_from, both_ways}
use Rattle.std.proofs.lemmas.List.{length-replicate}
use Rattle.std.specs.List.{list_all}
use Rattle.imap_words.specs.Languages.{Then, After, Is, IsOctet, IsCounted, IsViable}
use Rattle.imap_words.specs.Tokens.{IsNumber32, IsRunOf, IsDoubleQuote, passes, is_astring_char, is_name_char, is_digit}
use Rattle.imap_words.specs.declared.tokens.Kind.TheVariants.{NameAstring}
use Rattle.imap_words.specs.declared.stop.Stop.TheVariants.{More}
use Rattle.imap_words.specs.Strings.{QuotedChar, text, escaped, high, IsQuotedChar, quoted_octets, IsOneQuoted, IsHeaderName, HeadValue, whole, literal, IsPositive, IsNameHeader, IsQuotedName, IsNameHead, NameBodyOf}
use Rattle.imap_words.specs.Dates.{IsDigit, IsTwoDigits, IsFourDigits, IsDateDayFixed, months, IsTime, IsZone, IsDateTimeText, IsDateTime}
use Rattle.imap_words.proofs.Going.{Within, is_viable}
use Rattle.imap_words.proofs.Passing.{all_append, all_join}
use Rattle.imap_words.proofs.TableSteps.{is_table}
use Rattle.imap_words.proofs.QuotedSteps.{to_rest, from_rest}
use Rattle.imap_words.proofs.NameLaws.{name_parts, name_whole}
use Rattle.imap_words.proofs.NameSteps.{IsOneName, IsRestHeader, positive_viable, positive_stops}
use Rattle.imap_grammar.proofs.Deciding.{decide_by, decide_both, decide_true, decide_same, decide_below, decide_within}
use Rattle.imap_grammar.proofs.DecidingWords.{Searches, Known, Decided, same_decided, or_known, or_decided, is_decided, then_known, then_decided, after_decided, first_leads, itself_decided, Leads}
use Rattle.imap_grammar.proofs.DecidingLists.{Row, row_decided, Nonempty}
use Rattle.imap_grammar.proofs.DecidingTokens.{one_decided, octet_decided, space_decided, crlf_decided, run_decided, number_decided, word_decided}
use Rattle.imap_grammar.proofs.DecidingStrings.{joined, to_items, from_items, quotable_nonempty, name_item_decided, letter_may}

-- ---- in quotes

abbrev NameRow : List ℕ → List (List ℕ) → Type 0
NameRow = Row IsOneName IsDoubleQuote

-- one item at least
abbrev NameItems : List ℕ → List ℕ → Type 0
NameItems = Then IsOneName (λ first. Then NameRow (λ vs. Is (first ++ joined vs)))

plain_row : (vs : List (List ℕ)) (octets : List ℕ) → NameRow octets vs → Row (IsOneQuoted false) IsDoubleQuote octets vs
plain_row [] octets is = is
plain_row (v ∷ vs) octets is = (is.0, is.1, is.2, is.3.is_one, plain_row vs is.1 is.4)

row_names : (vs : List (List ℕ)) (octets : List ℕ) → NameRow octets vs → list_all is_name_char (joined vs) ≡ true
row_names [] octets is = refl
row_names (v ∷ vs) octets is = all_join is_name_char v (joined vs) is.3.is_name (row_names vs is.1 is.4)

name_row : (vs : List (List ℕ)) (octets : List ℕ) → Row (IsOneQuoted false) IsDoubleQuote octets vs → list_all is_name_char (joined vs) ≡ true → NameRow octets vs
name_row [] octets is all = is
name_row (v ∷ vs) octets is all =
    let parts = all_append is_name_char v (joined vs) all in
    (is.0, is.1, is.2, record { is_one = is.3; is_name = parts.0 }, name_row vs is.1 is.4 parts.1)

says_some : (octets value : List ℕ) → IsOneName octets value → 0 < length value
says_some octets value name = by name.is_one.item name.is_one.is name.is_one.value_is
  where
    by : (item : QuotedChar) → IsQuotedChar false item → value ≡ quoted_octets item → 0 < length value
    by (text x) is e = omega (arith, ap length e)
    by (escaped x) is e = omega (arith, ap length e)
    by (high item) is e = absurd (both_ways false refl is.0)

to_quoted_name : Within (After IsDoubleQuote NameItems) IsQuotedName
to_quoted_name octets value is =
    let name = is.second in
    let row = name.second in
    let all : list_all is_name_char value ≡ true = subst (λ z. list_all is_name_char z ≡ true) (sym row.second.1) (all_join is_name_char name.value (joined row.value) name.first.is_name (row_names row.value row.front row.first)) in
    let back_is : name.back ≡ row.front = row.whole ∙ (ap (λ z. row.front ++ z) row.second.0 ∙ append-nil row.front) in
    record {
      is_quoted = from_rest false octets value (record {
        value = is.value;
        front = is.front;
        back = is.back;
        whole = is.whole;
        first = is.first;
        second = from_items false is.back value (record {
          value = name.value ∷ row.value;
          front = is.back;
          back = [];
          whole = sym (append-nil is.back);
          first = (name.front, row.front, name.whole ∙ ap (λ z. name.front ++ z) back_is, name.first.is_one, plain_row row.value row.front row.first);
          second = (refl, row.second.1);
        });
      });
      is_name = record { some = subst (λ z. 0 < length z) (sym row.second.1) (omega (arith, length-append name.value (joined row.value), says_some name.front name.value name.first)); passes = all; value_is = refl };
    }

from_quoted_name : Within IsQuotedName (After IsDoubleQuote NameItems)
from_quoted_name octets value is =
    let q = to_rest false octets value is.is_quoted in
    let items = to_items false q.back value q.second in
    let all : q.back ≡ items.front = items.whole ∙ (ap (λ z. items.front ++ z) items.second.0 ∙ append-nil items.front) in
    record { value = q.value; front = q.front; back = q.back; whole = q.whole; first = q.first; second = by items.value (subst (λ z. Row (IsOneQuoted false) IsDoubleQuote z items.value) (sym all) items.first) items.second.1 }
  where
    by : {back : List ℕ} (vs : List (List ℕ)) → Row (IsOneQuoted false) IsDoubleQuote back vs → value ≡ joined vs → NameItems back value
    by [] row e = absurd (omega (arith, is.is_name.some, ap length e))
    by (v ∷ vs) row e =
        let parts = all_append is_name_char v (joined vs) (subst (λ z. list_all is_name_char z ≡ true) e is.is_name.passes) in
        record {
          value = v;
          front = row.0;
          back = row.1;
          whole = row.2;
          first = record { is_one = row.3; is_name = parts.0 };
          second = record { value = vs; front = row.1; back = []; whole = sym (append-nil row.1); first = name_row vs row.1 row.4 parts.1; second = (refl, e) };
        }

name_nonempty : Nonempty IsOneName
name_nonempty v is = quotable_nonempty false v is.is_one

quoted_name_decided : Decided IsQuotedName
quoted_name_decided =
    let row : Decided NameRow = row_decided name_nonempty name_item_decided.known (octet_decided 34) in
    same_decided to_quoted_name from_quoted_name (after_decided (octet_decided 34) (then_decided name_item_decided (λ first. then_decided row (λ vs. is_decided (first ++ joined vs)))))

-- ---- the header of a literal that has an octet

positive_decided : Decided IsPositive
positive_decided = record { known = record { search = search_positive; judge = λ octets. decide_by (positive_stops octets More) (fronts octets) (number_decided.known.judge octets) }; some = positive_viable }
  where
    search_positive : Searches IsPositive
    search_positive octets R decide = decide_by to from (number_decided.known.search octets (λ n. (0 < n) × R n) (λ n. decide_both (decide_below 0 n) (decide n)))
      where
        to : (n : ℕ) × IsNumber32 octets n × ((0 < n) × R n) → (n : ℕ) × IsPositive octets n × R n
        to s = (s.0, record { is_number = s.1; some = s.2.0 }, s.2.1)

        from : (n : ℕ) × IsPositive octets n × R n → (n : ℕ) × IsNumber32 octets n × ((0 < n) × R n)
        from s = (s.0, s.1.is_number, (s.1.some, s.2))

    fronts : (octets : List ℕ) → IsViable IsPositive octets → IsViable IsNumber32 octets
    fronts octets viable = record { rest = viable.rest; value = viable.value; is_word = viable.is_word.is_number }

to_name_header : Within (After (IsOctet 123) IsRestHeader) IsNameHeader
to_name_header octets size is =
    let n = is.second in
    record {
      is_header = record { value = is.value; front = is.front; back = is.back; whole = is.whole; first = is.first; second = record { value = n.value; front = n.front; back = n.back; whole = n.whole; first = n.first.is_number; second = n.second } };
      some = subst (λ z. 0 < z) (sym n.second.second.second.1) n.first.some;
    }

from_name_header : Within IsNameHeader (After (IsOctet 123) IsRestHeader)
from_name_header octets size is =
    let h = is.is_header in
    let n = h.second in
    record {
      value = h.value;
      front = h.front;
      back = h.back;
      whole = h.whole;
      first = h.first;
      second = record { value = n.value; front = n.front; back = n.back; whole = n.whole; first = record { is_number = n.first; some = subst (λ z. 0 < z) n.second.second.second.1 is.some }; second = n.second };
    }

name_header_decided : Decided IsNameHeader
name_header_decided = same_decided to_name_header from_name_header (after_decided (octet_decided 123) (then_decided positive_decided (λ n. after_decided (octet_decided 125) (after_decided crlf_decided (is_decided n)))))

-- ---- heads and bodies

name_head_decided : Decided IsNameHead
name_head_decided =
    or_decided (then_decided (run_decided (passes NameAstring) 97 (and_from (is_astring_char 97) (is_name_char 97) letter_may.2 letter_may.4)) (λ v. is_decided (whole v)))
    (or_known (then_decided quoted_name_decided (λ v. is_decided (whole v))).known (then_decided name_header_decided (λ n. is_decided (literal n))).known)

abbrev letters : ℕ → List ℕ
letters n = replicate n 97

letters_count : (n : ℕ) → length (letters n) ≡ n
letters_count n = length-replicate n 97

letters_name : (n : ℕ) → list_all is_name_char (letters n) ≡ true
letters_name zero = refl
letters_name (suc n) = and_from (is_name_char 97) (list_all is_name_char (letters n)) letter_may.4 (letters_name n)

-- so many octets, each of which may stand in a name
abbrev NameLiteral : ℕ → List ℕ → List ℕ → Type 0
NameLiteral n octets value = IsCounted n octets value × IsRunOf is_name_char octets octets

abbrev NameFront : ℕ → List ℕ → Type 0
NameFront n octets = (0 < n) × ((length octets ≤ n) × (list_all is_name_char octets ≡ true))

front_viable : (n : ℕ) (octets : List ℕ) → NameFront n octets → IsViable (NameLiteral n) octets
front_viable n octets front =
    let count : length (octets ++ letters (n - length octets)) ≡ n = omega (arith, front.1.0, length-append octets (letters (n - length octets)), letters_count (n - length octets)) in
    record {
      rest = letters (n - length octets);
      value = octets ++ letters (n - length octets);
      is_word = (
        (count, refl),
        record { some = omega (arith, count, front.0); passes = all_join is_name_char octets (letters (n - length octets)) front.1.1 (letters_name (n - length octets)); value_is = refl },
      );
    }

viable_front : (n : ℕ) (octets : List ℕ) → IsViable (NameLiteral n) octets → NameFront n octets
viable_front n octets viable =
    let is = viable.is_word in
    (omega (arith, is.0.0, is.1.some), (omega (arith, is.0.0, length-append octets viable.rest), (all_append is_name_char octets viable.rest is.1.passes).0))

name_literal_known : (n : ℕ) → Known (NameLiteral n)
name_literal_known n = record {
  search = search_literal;
  judge = λ octets. decide_by (front_viable n octets) (viable_front n octets) (decide_both (decide_below 0 n) (decide_both (decide_within (length octets) n) (decide_true (list_all is_name_char octets))));
}
  where
    search_literal : Searches (NameLiteral n)
    search_literal octets R decide = decide_by to from (decide_both (decide_both (decide_same (length octets) n) (decide_both (decide_below 0 (length octets)) (decide_true (list_all is_name_char octets)))) (decide octets))
      where
        to : ((length octets ≡ n) × ((0 < length octets) × (list_all is_name_char octets ≡ true))) × R octets → (v : List ℕ) × NameLiteral n octets v × R v
        to s = (octets, ((s.0.0, refl), record { some = s.0.1.0; passes = s.0.1.1; value_is = refl }), s.1)

        from : (v : List ℕ) × NameLiteral n octets v × R v → ((length octets ≡ n) × ((0 < length octets) × (list_all is_name_char octets ≡ true))) × R octets
        from s = ((s.1.0.0, (s.1.1.some, s.1.1.passes)), subst R s.1.0.1 s.2)

name_body_known : (head : HeadValue) → Known (NameBodyOf head)
name_body_known (whole v) = (is_decided v).known
name_body_known (literal n) = name_literal_known n

name_leads : Leads IsNameHead NameBodyOf
name_leads octets (whole v) is = is_viable v
name_leads octets (literal n) is = front_viable n [] (by is, (omega arith, refl))
  where
    by : IsNameHead octets (literal n) → 0 < n
    by (inl run) = absurd (cc run.second.1)
    by (inr (inl quoted)) = absurd (cc quoted.second.1)
    by (inr (inr header)) = let same : n ≡ header.value = cc header.second.1 in subst (λ z. 0 < z) (sym same) header.first.some

pub header_name_decided : (utf8 : Bool) → Decided (IsHeaderName utf8)
header_name_decided utf8 = same_decided (name_whole utf8) (name_parts utf8) (record {
  known = then_known name_head_decided.known name_body_known name_leads;
  some = first_leads name_leads [] name_head_decided.some;
})

-- ---- dates

zero_may : is_digit 48 ≡ true
unfolding is_digit
zero_may = refl

digit_decided : Decided IsDigit
digit_decided = same_decided (λ octets v is. record { is = is.0; digit = is.1 }) (λ octets v is. (is.is, is.digit)) (one_decided is_digit 48 zero_may)

two_digits_decided : Decided IsTwoDigits
two_digits_decided = after_decided digit_decided digit_decided

four_digits_decided : Decided IsFourDigits
four_digits_decided = after_decided two_digits_decided two_digits_decided

day_decided : Decided IsDateDayFixed
day_decided = or_decided (after_decided space_decided digit_decided) two_digits_decided.known

time_decided : Decided IsTime
time_decided = after_decided two_digits_decided (after_decided (octet_decided 58) (after_decided two_digits_decided (after_decided (octet_decided 58) two_digits_decided)))

zone_decided : Decided IsZone
zone_decided = after_decided (or_decided (octet_decided 43) (octet_decided 45).known) four_digits_decided

date_text_decided : Decided IsDateTimeText
date_text_decided =
    after_decided day_decided (after_decided (octet_decided 45) (after_decided (word_decided months (is_table _ _ refl refl)) (after_decided (octet_decided 45) (after_decided four_digits_decided
    (after_decided space_decided (after_decided time_decided (after_decided space_decided zone_decided)))))))

pub date_time_decided : Decided IsDateTime
date_time_decided = after_decided (octet_decided 34) (then_decided (itself_decided date_text_decided) (λ date. after_decided (octet_decided 34) (is_decided date)))
