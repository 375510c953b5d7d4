-- Whether octets are a string, a field's name or a date, or can be completed to one.
use Rattle.std.proofs.Common.{◌≡◌, ℕ, Bool, true, false, ◌&&◌, List, [], ◌∷◌, ◌++◌, inl, inr, refl, sym, ap, ◌∙◌, subst, append-nil, arith}
use Rattle.std.proofs.lemmas.Bool.{and_parts, and_from, both_ways}
use Rattle.std.specs.List.{list_all}
use Rattle.imap_words.specs.Languages.{Then, After, Or, Is, IsOctet, SaysItself}
use Rattle.imap_words.specs.Tokens.{IsDoubleQuote, is_atom_char, is_astring_char, is_list_char, is_name_char, is_quoted_text, is_quoted_special, is_tag_char, IsTag, IsImapAtom}
use Rattle.imap_words.specs.Strings.{IsUtf8Two, IsUtf8Three, IsUtf8Four, IsHighChar, IsUtf8Tail, QuotedChar, text, escaped, high, IsQuotedChar, quoted_spelling, quoted_octets, IsOneQuoted, IsQuoted, IsHeader, IsHeader8, IsLiteral, IsString, IsAstring, IsListMailbox}
use Rattle.imap_words.proofs.Going.{Within}
use Rattle.imap_words.proofs.QuotedSteps.{AreRest, IsRestQuoted, to_rest, from_rest, quote_never}
use Rattle.imap_words.proofs.NameSteps.{IsOneName}
use Rattle.imap_grammar.proofs.DecidingWords.{Known, Decided, none_known, same_decided, or_known, or_decided, is_decided, then_decided, after_decided, counted_decided, itself_decided}
use Rattle.imap_grammar.proofs.DecidingLists.{Row, row_decided, Nonempty}
use Rattle.imap_grammar.proofs.DecidingTokens.{IsOneOf, one_decided, octet_decided, crlf_decided, between_decided, run_decided, number_decided}

-- ---- kinds of octets have an octet

pub letter_may : (is_tag_char 97 ≡ true) × (is_atom_char 97 ≡ true) × (is_astring_char 97 ≡ true) × (is_list_char 97 ≡ true) × (is_name_char 97 ≡ true) × (is_quoted_text 97 ≡ true)
unfolding is_tag_char is_atom_char is_astring_char is_list_char is_name_char is_quoted_text
letter_may = (refl, refl, refl, refl, refl, refl)

pub tag_decided : Decided IsTag
tag_decided = run_decided is_tag_char 97 letter_may.0

pub atom_decided : Decided IsImapAtom
atom_decided = run_decided is_atom_char 97 letter_may.1

-- ---- characters above 127

tail_decided : Decided IsUtf8Tail
tail_decided = between_decided 128 191 (omega arith)

two_decided : Decided IsUtf8Two
two_decided = after_decided (between_decided 194 223 (omega arith)) tail_decided

three_decided : Decided IsUtf8Three
three_decided =
    or_decided (after_decided (octet_decided 224) (after_decided (between_decided 160 191 (omega arith)) tail_decided))
    (or_known (after_decided (between_decided 225 236 (omega arith)) (after_decided tail_decided tail_decided)).known
    (or_known (after_decided (octet_decided 237) (after_decided (between_decided 128 159 (omega arith)) tail_decided)).known
    (after_decided (between_decided 238 239 (omega arith)) (after_decided tail_decided tail_decided)).known))

four_decided : Decided IsUtf8Four
four_decided =
    or_decided (after_decided (octet_decided 240) (after_decided (between_decided 144 191 (omega arith)) (after_decided tail_decided tail_decided)))
    (or_known (after_decided (between_decided 241 243 (omega arith)) (after_decided tail_decided (after_decided tail_decided tail_decided))).known
    (after_decided (octet_decided 244) (after_decided (between_decided 128 143 (omega arith)) (after_decided tail_decided tail_decided))).known)

high_decided : Decided IsHighChar
high_decided = or_decided two_decided (or_known three_decided.known four_decided.known)

-- ---- quoted strings

-- a character that stands for itself, and one after a backslash
abbrev Plain : (ℕ → Bool) → List ℕ → List ℕ → Type 0
Plain p = Then (IsOneOf p) (λ x. Is (x ∷ []))

abbrev Escaped : (ℕ → Bool) → List ℕ → List ℕ → Type 0
Escaped p = After (IsOctet 92) (Plain p)

abbrev High : Bool → List ℕ → List ℕ → Type 0
High true = SaysItself IsHighChar
High false = λ octets value. ⊥

plain_decided : (p : ℕ → Bool) (x : ℕ) → p x ≡ true → Decided (Plain p)
plain_decided p x may = then_decided (one_decided p x may) (λ y. is_decided (y ∷ []))

high_known : (utf8 : Bool) → Known (High utf8)
high_known true = (itself_decided high_decided).known
high_known false = none_known

plain_is : (p : ℕ → Bool) (octets value : List ℕ) → Plain p octets value → (x : ℕ) × (octets ≡ x ∷ []) × (value ≡ x ∷ []) × (p x ≡ true)
plain_is p octets value is = (is.value, is.whole ∙ (ap (λ z. is.front ++ z) is.second.0 ∙ (append-nil is.front ∙ is.first.0)), is.second.1, is.first.1)

is_plain : (p : ℕ → Bool) (octets value : List ℕ) (x : ℕ) → octets ≡ x ∷ [] → value ≡ x ∷ [] → p x ≡ true → Plain p octets value
is_plain p octets value x e v may = record { value = x; front = octets; back = []; whole = sym (append-nil octets); first = (e, may); second = (refl, v) }

escaped_is : (p : ℕ → Bool) (octets value : List ℕ) → Escaped p octets value → (x : ℕ) × (octets ≡ 92 ∷ x ∷ []) × (value ≡ x ∷ []) × (p x ≡ true)
escaped_is p octets value is =
    let s = plain_is p is.back value is.second in
    (s.0, is.whole ∙ (ap (λ z. z ++ is.back) is.first.0 ∙ ap (λ z. 92 ∷ z) s.1), s.2, s.3)

is_escaped : (p : ℕ → Bool) (octets value : List ℕ) (x : ℕ) → octets ≡ 92 ∷ x ∷ [] → value ≡ x ∷ [] → p x ≡ true → Escaped p octets value
is_escaped p octets value x e v may = record { value = 92; front = 92 ∷ []; back = x ∷ []; whole = e; first = (refl, refl); second = is_plain p (x ∷ []) value x refl v may }

abbrev Quotable : Bool → List ℕ → List ℕ → Type 0
Quotable utf8 = Or (Plain is_quoted_text) (Or (Escaped is_quoted_special) (High utf8))

high_item : (utf8 : Bool) (octets value : List ℕ) → High utf8 octets value → IsOneQuoted utf8 octets value
high_item true octets value is = record { item = high octets; is = (refl, (is.says, is.is_word)); spelled = refl; value_is = is.same }
high_item false octets value is = absurd is

item_high : (utf8 : Bool) (octets value item : List ℕ) → IsQuotedChar utf8 (high item) → octets ≡ item → value ≡ item → High utf8 octets value
item_high true octets value item is e v = record { says = is.1.0; is_word = subst (λ z. IsHighChar z is.1.0) (sym e) is.1.1; same = v ∙ sym e }
item_high false octets value item is e v = both_ways false refl is.0

to_item : (utf8 : Bool) → Within (Quotable utf8) (IsOneQuoted utf8)
to_item utf8 octets value (inl is) = let s = plain_is is_quoted_text octets value is in record { item = text s.0; is = s.3; spelled = s.1; value_is = s.2 }
to_item utf8 octets value (inr (inl is)) = let s = escaped_is is_quoted_special octets value is in record { item = escaped s.0; is = s.3; spelled = s.1; value_is = s.2 }
to_item utf8 octets value (inr (inr is)) = high_item utf8 octets value is

from_item : (utf8 : Bool) → Within (IsOneQuoted utf8) (Quotable utf8)
from_item utf8 octets value one = by one.item one.is one.spelled one.value_is
  where
    by : (item : QuotedChar) → IsQuotedChar utf8 item → octets ≡ quoted_spelling item → value ≡ quoted_octets item → Quotable utf8 octets value
    by (text x) is e v = inl (is_plain is_quoted_text octets value x e v is)
    by (escaped x) is e v = inr (inl (is_escaped is_quoted_special octets value x e v is))
    by (high item) is e v = inr (inr (item_high utf8 octets value item is e v))

quotable_decided : (utf8 : Bool) → Decided (IsOneQuoted utf8)
quotable_decided utf8 =
    same_decided (to_item utf8) (from_item utf8)
    (or_decided (plain_decided is_quoted_text 97 letter_may.5) (or_known (after_decided (octet_decided 92) (plain_decided is_quoted_special 34 refl)).known (high_known utf8)))

-- what each item says, in a row
abbrev pub joined : List (List ℕ) → List ℕ
joined [] = []
joined (v ∷ vs) = v ++ joined vs

abbrev pub Items : Bool → List ℕ → List ℕ → Type 0
Items utf8 = Then (Row (IsOneQuoted utf8) IsDoubleQuote) (λ vs. Is (joined vs))

rest_of_row : (utf8 : Bool) (vs : List (List ℕ)) (octets : List ℕ) → Row (IsOneQuoted utf8) IsDoubleQuote octets vs → (items : List QuotedChar) × AreRest utf8 octets (joined vs) items
rest_of_row utf8 [] octets is = ([], (is.1.0, refl))
rest_of_row utf8 (v ∷ vs) octets is =
    let one = is.3 in
    let more = rest_of_row utf8 vs is.1 is.4 in
    (one.item ∷ more.0, (is.1, joined vs, one.is, is.2 ∙ ap (λ z. z ++ is.1) one.spelled, ap (λ z. z ++ joined vs) one.value_is, more.1))

row_of_rest : (utf8 : Bool) (items : List QuotedChar) (octets value : List ℕ) → AreRest utf8 octets value items → (vs : List (List ℕ)) × Row (IsOneQuoted utf8) IsDoubleQuote octets vs × (value ≡ joined vs)
row_of_rest utf8 [] octets value is = ([], (34, (is.0, refl)), is.1)
row_of_rest utf8 (item ∷ items) octets value is =
    let more = row_of_rest utf8 items is.0 is.1 is.5 in
    (quoted_octets item ∷ more.0, (quoted_spelling item, is.0, is.3, record { item = item; is = is.2; spelled = refl; value_is = refl }, more.1), is.4 ∙ ap (λ z. quoted_octets item ++ z) more.2)

pub to_items : (utf8 : Bool) → Within (IsRestQuoted utf8 []) (Items utf8)
to_items utf8 octets value is =
    let row = row_of_rest utf8 is.1 octets is.0 is.3 in
    record { value = row.0; front = octets; back = []; whole = sym (append-nil octets); first = row.1; second = (refl, is.2 ∙ row.2) }

pub from_items : (utf8 : Bool) → Within (Items utf8) (IsRestQuoted utf8 [])
from_items utf8 octets value is =
    let all : octets ≡ is.front = is.whole ∙ (ap (λ z. is.front ++ z) is.second.0 ∙ append-nil is.front) in
    let rest = rest_of_row utf8 is.value octets (subst (λ z. Row (IsOneQuoted utf8) IsDoubleQuote z is.value) (sym all) is.first) in
    (value, rest.0, refl, subst (λ z. AreRest utf8 octets z rest.0) (sym is.second.1) rest.1)

pub quotable_nonempty : (utf8 : Bool) → Nonempty (IsOneQuoted utf8)
quotable_nonempty utf8 v one = quote_never utf8 [] (34 ∷ []) v [] one refl

pub quoted_decided : (utf8 : Bool) → Decided (IsQuoted utf8)
quoted_decided utf8 =
    let items : Decided (Items utf8) = then_decided (row_decided (quotable_nonempty utf8) (quotable_decided utf8).known (octet_decided 34)) (λ vs. is_decided (joined vs)) in
    same_decided (from_rest utf8) (to_rest utf8) (after_decided (octet_decided 34) (same_decided (from_items utf8) (to_items utf8) items))

-- ---- literals and strings

pub header_decided : Decided IsHeader
header_decided = after_decided (octet_decided 123) (then_decided number_decided (λ n. after_decided (octet_decided 125) (after_decided crlf_decided (is_decided n))))

pub header8_decided : Decided IsHeader8
header8_decided = after_decided (octet_decided 126) header_decided

literal_decided : Decided IsLiteral
literal_decided = then_decided header_decided counted_decided

string_decided : (utf8 : Bool) → Decided (IsString utf8)
string_decided utf8 = or_decided (quoted_decided utf8) literal_decided.known

pub astring_decided : (utf8 : Bool) → Decided (IsAstring utf8)
astring_decided utf8 = or_decided (run_decided is_astring_char 97 letter_may.2) (string_decided utf8).known

pub list_mailbox_decided : (utf8 : Bool) → Decided (IsListMailbox utf8)
list_mailbox_decided utf8 = or_decided (run_decided is_list_char 97 letter_may.3) (string_decided utf8).known

-- ---- names of fields

backslash_may : is_name_char 92 ≡ true
unfolding is_name_char
backslash_may = refl

-- of these octets, those that a name may have
abbrev may_name : (ℕ → Bool) → ℕ → Bool
may_name p x = p x && is_name_char x

to_name : Within (Or (Plain (may_name is_quoted_text)) (Escaped (may_name is_quoted_special))) IsOneName
to_name octets value (inl is) =
    let s = plain_is (may_name is_quoted_text) octets value is in
    let may = and_parts (is_quoted_text s.0) (is_name_char s.0) s.3 in
    record { is_one = record { item = text s.0; is = may.0; spelled = s.1; value_is = s.2 }; is_name = subst (λ z. list_all is_name_char z ≡ true) (sym s.2) (and_from (is_name_char s.0) true may.1 refl) }
to_name octets value (inr is) =
    let s = escaped_is (may_name is_quoted_special) octets value is in
    let may = and_parts (is_quoted_special s.0) (is_name_char s.0) s.3 in
    record { is_one = record { item = escaped s.0; is = may.0; spelled = s.1; value_is = s.2 }; is_name = subst (λ z. list_all is_name_char z ≡ true) (sym s.2) (and_from (is_name_char s.0) true may.1 refl) }

from_name : Within IsOneName (Or (Plain (may_name is_quoted_text)) (Escaped (may_name is_quoted_special)))
from_name octets value name = by name.is_one.item name.is_one.is name.is_one.spelled name.is_one.value_is
  where
    may : (x : ℕ) → value ≡ x ∷ [] → is_name_char x ≡ true
    may x v = (and_parts (is_name_char x) true (subst (λ z. list_all is_name_char z ≡ true) v name.is_name)).0

    by : (item : QuotedChar) → IsQuotedChar false item → octets ≡ quoted_spelling item → value ≡ quoted_octets item → Or (Plain (may_name is_quoted_text)) (Escaped (may_name is_quoted_special)) octets value
    by (text x) is e v = inl (is_plain (may_name is_quoted_text) octets value x e v (and_from (is_quoted_text x) (is_name_char x) is (may x v)))
    by (escaped x) is e v = inr (is_escaped (may_name is_quoted_special) octets value x e v (and_from (is_quoted_special x) (is_name_char x) is (may x v)))
    by (high item) is e v = absurd (both_ways false refl is.0)

pub name_item_decided : Decided IsOneName
name_item_decided =
    same_decided to_name from_name
    (or_decided (plain_decided (may_name is_quoted_text) 97 (and_from (is_quoted_text 97) (is_name_char 97) letter_may.5 letter_may.4))
    (after_decided (octet_decided 92) (plain_decided (may_name is_quoted_special) 92 (and_from (is_quoted_special 92) (is_name_char 92) refl backslash_may))).known)
