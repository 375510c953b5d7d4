-- What the commands of the grammar say: dates that may be kept, flags below 32, and names of fields in ASCII.
use Rattle.std.proofs.Common.{◌≡◌, ℕ, zero, suc, ◌<◌, ◌≤◌, Bool, true, false, List, [], ◌∷◌, ◌++◌, length, take, drop, map, Option, None, Some, refl, sym, ap, subst, ◌∙◌, append_assoc, length-append, arith, codes, inl, inr}
use Rattle.std.specs.Char.{to_ascii_lowercase}
use Rattle.std.specs.List.{AllByRecursion, list_all, list_any}
use Rattle.std.specs.Prelude.{slice_index_or, slice_range}
use Rattle.std.specs.Str.{bytes_eq, str_to_ascii_lowercase}
use Rattle.std.proofs.lemmas.Bool.{and_from, and_parts, cond_both}
use Rattle.std.proofs.lemmas.Bool.Decides.{nat_tests}
use Rattle.std.proofs.lemmas.List.{drop_at, length-map, take_at}
use Rattle.std.proofs.lemmas.List.Elements.{All-from_recursion}
use Rattle.mail_wire.specs.Octets.{is_ascii, same_name}
use Rattle.mail_wire.proofs.AllLemmas.{pass-weaker}
use Rattle.journal_records.specs.Grammar.{IsDate, date_shape, fits_letter, months}
use Rattle.imap_words.specs.Languages.{Then, After, Or, Is, IsOctet, IsList, IsTail, Maybe}
use Rattle.imap_words.specs.Tokens.{IsSpace, is_digit, is_name_char, IsCloseParenthesis}
use Rattle.imap_words.specs.Keywords.{Named, IsWordOf, upper}
use Rattle.imap_words.specs.Strings.{IsHeaderName}
use Rattle.imap_words.specs.Dates.{IsDateDayFixed, IsDateTime, IsDateTimeText, IsDigit, IsFourDigits, IsTime, IsTwoDigits, IsZone, months as month_words}
use Rattle.imap_grammar.specs.Commands.{AppendFront, IsAppendFront, IsBareCommand, IsAfterName, IsAfterUid, IsCommand, IsFetch, IsNaming, IsStore, Tagged, some_flags}
use Rattle.imap_grammar.specs.Events.{IsDue}
use Rattle.imap_grammar.specs.Fetching.{IsAfterItem, IsAfterWord, IsFetchAtt, IsFetchItems, IsHeaderList, IsSection, IsSectionItem, IsSectionSpec, IsSectionText, SectionName, macro_items}
use Rattle.imap_grammar.specs.Flags.{bit_of, flags_of}
use Rattle.imap_grammar.specs.declared.command.Command.{Command}
use Rattle.imap_grammar.specs.declared.command.Command.TheVariants as command
use Rattle.imap_grammar.specs.declared.command.FetchItem.{FetchItem}
use Rattle.imap_grammar.specs.declared.command.FetchItem.TheVariants as item
use Rattle.imap_grammar.specs.declared.command.SectionPart.{SectionPart}
use Rattle.imap_grammar.specs.declared.command.SectionPart.TheVariants as part
use Rattle.imap_grammar.specs.declared.event.Event.{Event}
use Rattle.imap_grammar.specs.declared.event.Event.TheVariants.{Command as CommandEvent}
use Rattle.imap_grammar.specs.declared.words.ItemWord.{ItemWord}
use Rattle.imap_grammar.specs.declared.words.ItemWord.TheVariants as word
use Rattle.imap_grammar.specs.declared.words.Name.{Name}
use Rattle.imap_grammar.specs.declared.words.Name.TheVariants as name
use Rattle.imap_grammar.specs.declared.words.SectionWord.{SectionWord}
use Rattle.imap_grammar.specs.declared.words.SectionWord.TheVariants as section
use Rattle.imap_grammar.specs.declared.words.UidName.{UidName}
use Rattle.imap_grammar.specs.declared.words.UidName.TheVariants as uid
use Rattle.imap_session.specs.Session.{IsSaid, IsSaidIn, fits_shape, is_date}

-- ---- dates as texts

-- a text has as many octets as its shape has letters
shape_len : (shape date : List ℕ) → fits_shape shape date ≡ true → length date ≡ length shape
unfolding fits_shape
shape_len [] [] fits = refl
shape_len [] (x ∷ date) fits = absurd cc
shape_len (letter ∷ shape) [] fits = absurd cc
shape_len (letter ∷ shape) (x ∷ date) fits = let rest = shape_len shape date (and_parts (fits_letter letter x) (fits_shape shape date) fits).1 in omega (arith, rest)

-- and each is fit for its letter
shape_at : (shape date : List ℕ) → fits_shape shape date ≡ true → (at : ℕ) → at < length shape → fits_letter (slice_index_or shape at 0) (slice_index_or date at 0) ≡ true
unfolding fits_shape
shape_at [] date fits at within = absurd (omega (arith, within))
shape_at (letter ∷ shape) [] fits at within = absurd cc
shape_at (letter ∷ shape) (x ∷ date) fits zero within = (and_parts (fits_letter letter x) (fits_shape shape date) fits).0
shape_at (letter ∷ shape) (x ∷ date) fits (suc at) within =
    shape_at shape date (and_parts (fits_letter letter x) (fits_shape shape date) fits).1 at (omega (arith, within))

shape_from : (shape date : List ℕ) → length date ≡ length shape → ((at : ℕ) → at < length shape → fits_letter (slice_index_or shape at 0) (slice_index_or date at 0) ≡ true)
    → fits_shape shape date ≡ true
unfolding fits_shape
shape_from [] [] len each = refl
shape_from [] (x ∷ date) len each = absurd (omega (arith, len))
shape_from (letter ∷ shape) [] len each = absurd (omega (arith, len))
shape_from (letter ∷ shape) (x ∷ date) len each =
    and_from (fits_letter letter x) (fits_shape shape date) (each 0 (omega arith)) (shape_from shape date (omega (arith, len)) (λ at within. each (suc at) (omega (arith, within))))

-- what passes the test is a date
pub is_date_date : (text : List ℕ) → is_date text ≡ true → IsDate text
is_date_date text is =
    let parts = and_parts (fits_shape date_shape text) (list_any (λ month. same_name month (slice_range text 3 6)) months) is in
    record { len = shape_len date_shape text parts.0; shape = shape_at date_shape text parts.0; month = parts.1 }

-- and a date passes it
pub is_date_true : (text : List ℕ) → IsDate text → is_date text ≡ true
is_date_true text is =
    and_from (fits_shape date_shape text) (list_any (λ month. same_name month (slice_range text 3 6)) months) (shape_from date_shape text is.len is.shape) is.month

-- ---- dates of the grammar

-- each word is fit for the letters
abbrev AreFitFor : {V : Type 0} → List ℕ → (List ℕ → V → Type 0) → Type 0
AreFitFor {V} shape P = (octets : List ℕ) (value : V) → P octets value → fits_shape shape octets ≡ true

shape_append : (one more first others : List ℕ) → fits_shape one first ≡ true → fits_shape more others ≡ true → fits_shape (one ++ more) (first ++ others) ≡ true
unfolding fits_shape
shape_append [] more [] others fits later = later
shape_append [] more (x ∷ first) others fits later = absurd cc
shape_append (letter ∷ one) more [] others fits later = absurd cc
shape_append (letter ∷ one) more (x ∷ first) others fits later =
    let parts = and_parts (fits_letter letter x) (fits_shape one first) fits in
    and_from (fits_letter letter x) (fits_shape (one ++ more) (first ++ others)) parts.0 (shape_append one more first others parts.1 later)

after_fits : {V W : Type 0} (P : List ℕ → V → Type 0) (Q : List ℕ → W → Type 0) (one more : List ℕ) → AreFitFor one P → AreFitFor more Q → AreFitFor (one ++ more) (After P Q)
after_fits P Q one more first others octets value is = rw is.whole (shape_append one more is.front is.back (first is.front is.value is.first) (others is.back value is.second))

-- an octet for itself
octet_fits : (x letter : ℕ) → fits_letter letter x ≡ true → AreFitFor (letter ∷ []) (IsOctet x)
unfolding fits_shape
octet_fits x letter fits octets value is = rw is.0 (rw fits refl)

digit_fits : AreFitFor (57 ∷ []) IsDigit
unfolding fits_shape fits_letter is_digit
digit_fits octets value is = let digit = is.digit in rw is.is (grind (arith, nat_tests))

first_digit_fits : AreFitFor (100 ∷ []) IsDigit
unfolding fits_shape fits_letter is_digit
first_digit_fits octets value is = let digit = is.digit in rw is.is (grind (arith, nat_tests))

two_fit : AreFitFor (57 ∷ 57 ∷ []) IsTwoDigits
two_fit = after_fits IsDigit IsDigit (57 ∷ []) (57 ∷ []) digit_fits digit_fits

four_fit : AreFitFor (57 ∷ 57 ∷ 57 ∷ 57 ∷ []) IsFourDigits
four_fit = after_fits IsTwoDigits IsTwoDigits (57 ∷ 57 ∷ []) (57 ∷ 57 ∷ []) two_fit two_fit

space_fits : AreFitFor (32 ∷ []) IsSpace
unfolding fits_letter
space_fits = octet_fits 32 32 refl

colon_fits : AreFitFor (58 ∷ []) (IsOctet 58)
unfolding fits_letter
colon_fits = octet_fits 58 58 refl

dash_fits : AreFitFor (45 ∷ []) (IsOctet 45)
unfolding fits_letter
dash_fits = octet_fits 45 45 refl

day_fits : AreFitFor (codes "d9") IsDateDayFixed
unfolding fits_letter
day_fits octets value (inl one) = after_fits IsSpace IsDigit (100 ∷ []) (57 ∷ []) (octet_fits 32 100 refl) digit_fits octets value one
day_fits octets value (inr two) = after_fits IsDigit IsDigit (100 ∷ []) (57 ∷ []) first_digit_fits digit_fits octets value two

time_fits : AreFitFor (codes "99:99:99") IsTime
time_fits =
    after_fits IsTwoDigits (After (IsOctet 58) (After IsTwoDigits (After (IsOctet 58) IsTwoDigits))) (codes "99") (codes ":99:99") two_fit
    (after_fits (IsOctet 58) (After IsTwoDigits (After (IsOctet 58) IsTwoDigits)) (codes ":") (codes "99:99") colon_fits
    (after_fits IsTwoDigits (After (IsOctet 58) IsTwoDigits) (codes "99") (codes ":99") two_fit
    (after_fits (IsOctet 58) IsTwoDigits (codes ":") (codes "99") colon_fits two_fit)))

sign_fits : AreFitFor (codes "+") (Or (IsOctet 43) (IsOctet 45))
unfolding fits_letter
sign_fits octets value (inl plus) = octet_fits 43 43 refl octets value plus
sign_fits octets value (inr minus) = octet_fits 45 43 refl octets value minus

zone_fits : AreFitFor (codes "+9999") IsZone
zone_fits = after_fits (Or (IsOctet 43) (IsOctet 45)) IsFourDigits (codes "+") (codes "9999") sign_fits four_fit

-- a name of a month in lower case is that of a month
abbrev IsMonthWord : Named ℕ → Type 0
IsMonthWord entry = (length entry.word ≡ 3) × (list_any (λ month. bytes_eq (str_to_ascii_lowercase month) (str_to_ascii_lowercase entry.word)) months ≡ true)

month_words_are : AllByRecursion IsMonthWord month_words
month_words_are = ((refl, refl), ((refl, refl), ((refl, refl), ((refl, refl), ((refl, refl), ((refl, refl), ((refl, refl), ((refl, refl), ((refl, refl), ((refl, refl), ((refl, refl), ((refl, refl), tt))))))))))))

month_word : (octets : List ℕ) (value : ℕ) (is : IsWordOf month_words octets value) → IsMonthWord is.entry
month_word octets value is = subst IsMonthWord is.known.2 (All-from_recursion IsMonthWord month_words month_words_are is.known.0 is.entry is.known.1)

lower_of_upper : (octets : List ℕ) → str_to_ascii_lowercase (map upper octets) ≡ str_to_ascii_lowercase octets
lower_of_upper [] = refl
lower_of_upper (x ∷ octets) = let first : to_ascii_lowercase (upper x) ≡ to_ascii_lowercase x = one x in let rest = lower_of_upper octets in rw first (rw rest refl)
  where
    one : (x : ℕ) → to_ascii_lowercase (upper x) ≡ to_ascii_lowercase x
    one x = grind (arith, nat_tests)

month_len : (octets : List ℕ) (value : ℕ) → IsWordOf month_words octets value → length octets ≡ 3
month_len octets value is = sym (length-map octets upper) ∙ (ap length is.word ∙ (month_word octets value is).0)

month_is : (octets : List ℕ) (value : ℕ) → IsWordOf month_words octets value → list_any (λ month. same_name month octets) months ≡ true
unfolding same_name
month_is octets value is =
    let lower : str_to_ascii_lowercase is.entry.word ≡ str_to_ascii_lowercase octets = ap str_to_ascii_lowercase (sym is.word) ∙ lower_of_upper octets in
    subst (λ z. list_any (λ month. bytes_eq (str_to_ascii_lowercase month) z) months ≡ true) lower (month_word octets value is).1

-- three octets, whatever they are
any_three : (octets : List ℕ) → length octets ≡ 3 → fits_shape (97 ∷ 97 ∷ 97 ∷ []) octets ≡ true
unfolding fits_shape fits_letter
any_three [] len = absurd (omega (arith, len))
any_three (x ∷ []) len = absurd (omega (arith, len))
any_three (x ∷ y ∷ []) len = absurd (omega (arith, len))
any_three (x ∷ y ∷ z ∷ []) len = refl
any_three (x ∷ y ∷ z ∷ w ∷ octets) len = absurd (omega (arith, len))

month_fits : AreFitFor (codes "aaa") (IsWordOf month_words)
month_fits octets value is = any_three octets (month_len octets value is)

abbrev IsAfterMonth : List ℕ → ℕ → Type 0
IsAfterMonth = After (IsOctet 45) (After IsFourDigits (After IsSpace (After IsTime (After IsSpace IsZone))))

after_month_fits : AreFitFor (codes "-9999 99:99:99 +9999") IsAfterMonth
after_month_fits =
    after_fits (IsOctet 45) (After IsFourDigits (After IsSpace (After IsTime (After IsSpace IsZone)))) (codes "-") (codes "9999 99:99:99 +9999") dash_fits
    (after_fits IsFourDigits (After IsSpace (After IsTime (After IsSpace IsZone))) (codes "9999") (codes " 99:99:99 +9999") four_fit
    (after_fits IsSpace (After IsTime (After IsSpace IsZone)) (codes " ") (codes "99:99:99 +9999") space_fits
    (after_fits IsTime (After IsSpace IsZone) (codes "99:99:99") (codes " +9999") time_fits
    (after_fits IsSpace IsZone (codes " ") (codes "+9999") space_fits zone_fits))))

text_fits : AreFitFor date_shape IsDateTimeText
text_fits =
    after_fits IsDateDayFixed (After (IsOctet 45) (After (IsWordOf month_words) IsAfterMonth)) (codes "d9") (codes "-aaa-9999 99:99:99 +9999") day_fits
    (after_fits (IsOctet 45) (After (IsWordOf month_words) IsAfterMonth) (codes "-") (codes "aaa-9999 99:99:99 +9999") dash_fits
    (after_fits (IsWordOf month_words) IsAfterMonth (codes "aaa") (codes "-9999 99:99:99 +9999") month_fits after_month_fits))

-- three octets after three
middle_three : (day dash month rest : List ℕ) → length day ≡ 2 → length dash ≡ 1 → length month ≡ 3 → slice_range (day ++ (dash ++ (month ++ rest))) 3 6 ≡ month
middle_three day dash month rest two one three =
    let front : day ++ (dash ++ (month ++ rest)) ≡ (day ++ dash) ++ (month ++ rest) = sym (append_assoc day dash (month ++ rest)) in
    let len : length (day ++ dash) ≡ 3 = let both = length-append day dash in omega (arith, both, two, one) in
    let following : drop 3 (day ++ (dash ++ (month ++ rest))) ≡ month ++ rest = ap (drop 3) front ∙ drop_at (day ++ dash) (month ++ rest) 3 len in
    ap (take 3) following ∙ take_at month rest 3 three

-- a date of the grammar is one that may be kept
pub text_date : (octets : List ℕ) (value : ℕ) → IsDateTimeText octets value → IsDate octets
text_date octets value is =
    let dash = is.second in
    let month = dash.second in
    let whole : octets ≡ is.front ++ (dash.front ++ (month.front ++ month.back)) = is.whole ∙ ap (λ z. is.front ++ z) (dash.whole ∙ ap (λ z. dash.front ++ z) month.whole) in
    let two = shape_len (codes "d9") is.front (day_fits is.front is.value is.first) in
    let one = shape_len (codes "-") dash.front (dash_fits dash.front dash.value dash.first) in
    let three = month_len month.front month.value month.first in
    let named : slice_range octets 3 6 ≡ month.front = ap (λ z. slice_range z 3 6) whole ∙ middle_three is.front dash.front month.front month.back two one three in
    let known : list_any (λ m. same_name m (slice_range octets 3 6)) months ≡ true =
    subst (λ z. list_any (λ m. same_name m z) months ≡ true) (sym named) (month_is month.front month.value month.first) in
    is_date_date octets (and_from (fits_shape date_shape octets) (list_any (λ m. same_name m (slice_range octets 3 6)) months) (text_fits octets value is) known)

-- and so is one in quotes, without them
quoted_date : (octets date : List ℕ) → IsDateTime octets date → IsDate date
quoted_date octets date is =
    let text = is.second.first in
    let same : date ≡ is.second.front = is.second.second.second.1 ∙ text.same in
    subst IsDate (sym same) (text_date is.second.front text.says text.is_word)

-- ---- flags

bit_small : (bit : ℕ) (name : List ℕ) (flags : List (List ℕ)) → bit_of bit name flags ≤ bit
bit_small bit name flags = cond_both (list_any (same_name name) flags) bit 0 (λ n. n ≤ bit) (λ _. omega arith) (λ _. omega arith)

flags_small : (flags : List (List ℕ)) → flags_of flags < 32
unfolding flags_of
flags_small flags =
    let seen = bit_small 1 (codes "\\Seen") flags in
    let answered = bit_small 2 (codes "\\Answered") flags in
    let flagged = bit_small 4 (codes "\\Flagged") flags in
    let deleted = bit_small 8 (codes "\\Deleted") flags in
    let draft = bit_small 16 (codes "\\Draft") flags in
    omega (arith, seen, answered, flagged, deleted, draft)

some_small : (flags : Option (List (List ℕ))) → some_flags flags < 32
some_small None = omega arith
some_small (Some flags) = flags_small flags

-- ---- names of fields

abbrev pub IsAsciiName : List ℕ → Type 0
IsAsciiName octets = list_all is_ascii octets ≡ true

-- the names that a section asks for are ASCII
abbrev pub NamesAscii : SectionPart → Type 0
NamesAscii (part.Fields names negated) = AllByRecursion IsAsciiName names
NamesAscii other = Unit {0}

abbrev pub AsksAscii : FetchItem → Type 0
AsksAscii (item.Section peek path what partial) = NamesAscii what
AsksAscii other = Unit {0}

abbrev pub FetchesAscii : Command → Type 0
FetchesAscii (command.Fetch by_uid set items) = AllByRecursion AsksAscii items
FetchesAscii other = Unit {0}

-- a name's octet is ASCII
name_char_ascii : (x : ℕ) → is_name_char x ≡ true → is_ascii x ≡ true
unfolding is_name_char
name_char_ascii x is = grind (arith, nat_tests)

name_ascii : (utf8 : Bool) (octets value : List ℕ) → IsHeaderName utf8 octets value → IsAsciiName value
name_ascii utf8 octets value is = pass-weaker is_name_char is_ascii name_char_ascii value is.is_name.passes

-- what holds of each item of a list
module _ {V W E : Type 0} (Separator : List ℕ → W → Type 0) (P : List ℕ → V → Type 0) (End : List ℕ → E → Type 0) (R : V → Type 0) (each : (octets : List ℕ) (value : V) → P octets value → R value) where
  tail_each : (octets : List ℕ) (values : List V) → IsTail Separator P End octets values → AllByRecursion R values
  tail_each octets [] is = tt
  tail_each octets (value ∷ values) is = (each is.2 value is.6, tail_each is.3 values is.7)

  list_each : (octets : List ℕ) (values : List V) → IsList Separator P End octets values → AllByRecursion R values
  list_each octets values is =
      let rest = is.second in
      subst (λ z. AllByRecursion R z) (sym rest.1) (each is.front is.value is.first, tail_each is.back rest.0 rest.2)

names_ascii : (utf8 : Bool) (octets : List ℕ) (names : List (List ℕ)) → IsHeaderList utf8 octets names → AllByRecursion IsAsciiName names
names_ascii utf8 octets names is = list_each IsSpace (IsHeaderName utf8) IsCloseParenthesis IsAsciiName (name_ascii utf8) is.back names is.second

word_ascii : (utf8 : Bool) (w : SectionWord) (octets : List ℕ) (what : SectionPart) → IsAfterWord utf8 w octets what → NamesAscii what
word_ascii utf8 section.Header octets what is = subst NamesAscii (sym is.1) tt
word_ascii utf8 section.Fields octets what is = let names = is.second in subst NamesAscii (sym names.second.1) (names_ascii utf8 names.front names.value names.first)
word_ascii utf8 section.FieldsNot octets what is = let names = is.second in subst NamesAscii (sym names.second.1) (names_ascii utf8 names.front names.value names.first)
word_ascii utf8 section.Text octets what is = subst NamesAscii (sym is.1) tt
word_ascii utf8 section.Mime octets what is = subst NamesAscii (sym is.1) tt

abbrev SectionAscii : SectionName → Type 0
SectionAscii named = NamesAscii named.part

spec_ascii : (utf8 : Bool) (octets : List ℕ) (named : SectionName) → IsSectionSpec utf8 octets named → SectionAscii named
spec_ascii utf8 octets named (inl text) =
    let said = text.first in
    subst SectionAscii (sym text.second.1) (word_ascii utf8 said.value said.back text.value said.second)
spec_ascii utf8 octets named (inr numbers) = following numbers.back numbers.second
  where
    following : (back : List ℕ) → Or (Is (record { path = numbers.value; part = part.Whole })) (After (IsOctet 46) (Then (IsSectionText utf8) (λ p. Is (record { path = numbers.value; part = p })))) back named → SectionAscii named
    following back (inl whole) = subst SectionAscii (sym whole.1) tt
    following back (inr dot) =
        let text = dot.second in
        let said = text.first in
        subst SectionAscii (sym text.second.1) (word_ascii utf8 said.value said.back text.value said.second)

section_ascii : (utf8 : Bool) (octets : List ℕ) (named : SectionName) → IsSection utf8 octets named → SectionAscii named
section_ascii utf8 octets named is =
    let inner = is.second in
    subst SectionAscii (sym inner.second.second.1) (within inner.front inner.value inner.first)
  where
    within : (front : List ℕ) (inside : SectionName) → Or (Is (record { path = []; part = part.Whole })) (IsSectionSpec utf8) front inside → SectionAscii inside
    within front inside (inl none) = subst SectionAscii (sym none.1) tt
    within front inside (inr spec) = spec_ascii utf8 front inside spec

section_item_ascii : (utf8 peek : Bool) (octets : List ℕ) (asked : FetchItem) → IsSectionItem utf8 peek octets asked → AsksAscii asked
section_item_ascii utf8 peek octets asked is = subst AsksAscii (sym is.second.second.1) (section_ascii utf8 is.front is.value is.first)

item_ascii : (utf8 : Bool) (w : ItemWord) (octets : List ℕ) (asked : FetchItem) → IsAfterItem utf8 w octets asked → AsksAscii asked
item_ascii utf8 word.Flags octets asked is = subst AsksAscii (sym is.1) tt
item_ascii utf8 word.Uid octets asked is = subst AsksAscii (sym is.1) tt
item_ascii utf8 word.InternalDate octets asked is = subst AsksAscii (sym is.1) tt
item_ascii utf8 word.Size octets asked is = subst AsksAscii (sym is.1) tt
item_ascii utf8 word.Rfc822 octets asked is = subst AsksAscii (sym is.1) tt
item_ascii utf8 word.Rfc822Header octets asked is = subst AsksAscii (sym is.1) tt
item_ascii utf8 word.Rfc822Text octets asked is = subst AsksAscii (sym is.1) tt
item_ascii utf8 word.Envelope octets asked is = subst AsksAscii (sym is.1) tt
item_ascii utf8 word.BodyStructure octets asked is = subst AsksAscii (sym is.1) tt
item_ascii utf8 word.Body octets asked (inl body) = subst AsksAscii (sym body.1) tt
item_ascii utf8 word.Body octets asked (inr section) = section_item_ascii utf8 false octets asked section
item_ascii utf8 word.BodyPeek octets asked is = section_item_ascii utf8 true octets asked is
item_ascii utf8 word.All octets asked is = absurd is
item_ascii utf8 word.Fast octets asked is = absurd is
item_ascii utf8 word.Full octets asked is = absurd is

att_ascii : (utf8 : Bool) (octets : List ℕ) (asked : FetchItem) → IsFetchAtt utf8 octets asked → AsksAscii asked
att_ascii utf8 octets asked is = item_ascii utf8 is.value is.back asked is.second

-- a macro asks for no names
macro_ascii : (w : ItemWord) → AllByRecursion AsksAscii (macro_items w)
macro_ascii word.Fast = (tt, (tt, (tt, tt)))
macro_ascii word.All = (tt, (tt, (tt, (tt, tt))))
macro_ascii word.Full = (tt, (tt, (tt, (tt, (tt, tt)))))
macro_ascii other = tt

items_ascii : (utf8 : Bool) (octets : List ℕ) (items : List FetchItem) → IsFetchItems utf8 octets items → AllByRecursion AsksAscii items
items_ascii utf8 octets items (inl macro) = subst (λ z. AllByRecursion AsksAscii z) (sym macro.second.1) (macro_ascii macro.value)
items_ascii utf8 octets items (inr (inl one)) = subst (λ z. AllByRecursion AsksAscii z) (sym one.second.1) (att_ascii utf8 one.front one.value one.first, tt)
items_ascii utf8 octets items (inr (inr list)) = list_each IsSpace (IsFetchAtt utf8) IsCloseParenthesis AsksAscii (att_ascii utf8) list.back items list.second

-- ---- commands

-- what is told of a command
abbrev Says : Command → Type 0
Says said = IsSaid said × FetchesAscii said

bare_says : (made : Command) (octets : List ℕ) (said : Command) → Says made → IsBareCommand made octets said → Says said
bare_says made octets said says is = subst Says (sym is.second.1) says

-- a date that is given is one
abbrev IsSomeDate : Option (List ℕ) → Type 0
IsSomeDate None = Unit {0}
IsSomeDate (Some date) = IsDate date

maybe_date : (octets : List ℕ) (date : Option (List ℕ)) → Maybe (After IsSpace IsDateTime) octets date → IsSomeDate date
maybe_date octets date (inl none) = subst IsSomeDate (sym none.1) tt
maybe_date octets date (inr some) = subst IsSomeDate (sym some.second.1) (quoted_date some.first.back some.value some.first.second)

front_date : (utf8 : Bool) (octets : List ℕ) (front : AppendFront) → IsAppendFront utf8 octets front → IsSomeDate front.date
front_date utf8 octets front is =
    let date = is.second.second.second in
    subst (λ (f : AppendFront). IsSomeDate f.date) (sym date.second.second.second.1) (maybe_date date.front date.value date.first)

append_says : (written : List ℕ) (flags : ℕ) (date : Option (List ℕ)) (in_utf8 : Bool) (octets : List ℕ) → flags < 32 → IsSomeDate date → Says (command.Append written flags date in_utf8 octets)
append_says written flags None in_utf8 octets small dated = (small, tt)
append_says written flags (Some date) in_utf8 octets small dated = ((dated, small), tt)

fetch_says : (utf8 by_uid : Bool) (octets : List ℕ) (said : Command) → IsFetch utf8 by_uid octets said → Says said
fetch_says utf8 by_uid octets said is =
    let items = is.second.second in
    bare_says (command.Fetch by_uid (record { ranges = is.second.value }) items.value) items.back said (tt, items_ascii utf8 items.front items.value items.first) items.second

store_says : (by_uid : Bool) (octets : List ℕ) (said : Command) → IsStore by_uid octets said → Says said
store_says by_uid octets said is = subst Says (sym is.second.second.second.second.second.1) (tt, tt)

uid_says : (utf8 : Bool) (w : UidName) (octets : List ℕ) (said : Command) → IsAfterUid utf8 w octets said → Says said
uid_says utf8 uid.Fetch octets said is = fetch_says utf8 true octets said is
uid_says utf8 uid.Store octets said is = store_says true octets said is
uid_says utf8 uid.NotHere octets said is = subst Says (sym is.1) (tt, tt)

naming_says : (utf8 : Bool) (made : List ℕ → Command) (octets : List ℕ) (said : Command) → ((written : List ℕ) → Says (made written)) → IsNaming utf8 made octets said → Says said
naming_says utf8 made octets said each is = let mailbox = is.second in bare_says (made mailbox.value) mailbox.back said (each mailbox.value) mailbox.second

after_says : (utf8 : Bool) (n : Name) (octets : List ℕ) (said : Command) → IsAfterName utf8 n octets said → Says said
after_says utf8 name.Capability octets said is = bare_says command.Capability octets said (tt, tt) is
after_says utf8 name.Noop octets said is = bare_says command.Noop octets said (tt, tt) is
after_says utf8 name.Check octets said is = bare_says command.Check octets said (tt, tt) is
after_says utf8 name.Logout octets said is = bare_says command.Logout octets said (tt, tt) is
after_says utf8 name.Login octets said is =
    let user = is.second in
    let password = user.second.second in
    bare_says (command.Login user.value password.value) password.back said (tt, tt) password.second
after_says utf8 name.Enable octets said is = subst Says (sym is.second.second.1) (tt, tt)
after_says utf8 name.Select octets said is = naming_says utf8 command.Select octets said (λ written. (tt, tt)) is
after_says utf8 name.Examine octets said is = naming_says utf8 command.Examine octets said (λ written. (tt, tt)) is
after_says utf8 name.Create octets said is = naming_says utf8 command.Create octets said (λ written. (tt, tt)) is
after_says utf8 name.List octets said is =
    let reference = is.second in
    let pattern = reference.second.second in
    bare_says (command.List reference.value pattern.value) pattern.back said (tt, tt) pattern.second
after_says utf8 name.Status octets said is =
    let mailbox = is.second in
    let items = mailbox.second.second in
    bare_says (command.Status mailbox.value items.value) items.back said (tt, tt) items.second
after_says utf8 name.Append octets said is =
    let front = is.value in
    let content = is.second in
    subst Says (sym content.second.second.1)
    (append_says front.mailbox (some_flags front.flags) front.date front.announced.utf8 content.value (some_small front.flags) (front_date utf8 is.front front is.first))
after_says utf8 name.Fetch octets said is = fetch_says utf8 false octets said is
after_says utf8 name.Store octets said is = store_says false octets said is
after_says utf8 name.Uid octets said is = uid_says utf8 is.second.value is.second.back said is.second.second
after_says utf8 name.Expunge octets said is = bare_says command.Expunge octets said (tt, tt) is
after_says utf8 name.Close octets said is = bare_says command.Close octets said (tt, tt) is
after_says utf8 name.NotHere octets said is = subst Says (sym is.1) (tt, tt)

command_says : (utf8 : Bool) (octets tag : List ℕ) (said : Command) → IsCommand utf8 octets (record { tag = tag; command = said }) → Says said
command_says utf8 octets tag said is =
    let named = is.second.second in
    let following = named.second in
    let same : said ≡ following.value = ap (λ (one : Tagged). one.command) following.second.1 in
    subst Says (sym same) (after_says utf8 named.value following.front following.value following.first)

-- ---- what is due

pub said_of : (utf8 : Bool) (octets : List ℕ) (event : Event) → IsDue utf8 octets event → IsSaidIn event
said_of utf8 octets (CommandEvent tag said) due = (command_says utf8 octets tag said due.1).0
said_of utf8 octets other due = tt

-- the names of fields that a command asks for are ASCII
pub names_of : (utf8 : Bool) (octets tag : List ℕ) (said : Command) → IsDue utf8 octets (CommandEvent tag said) → FetchesAscii said
names_of utf8 octets tag said due = (command_says utf8 octets tag said due.1).1
