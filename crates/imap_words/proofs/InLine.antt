-- Texts in which no line ends, and words without CR: a reader of such words asks for more octets only where no line ends.
use Rattle.std.proofs.Common.{◌≡◌, ℕ, ◌<◌, ◌==◌, Bool, true, false, not, List, [], ◌∷◌, ◌++◌, length, map, Some, None, inl, inr, refl, sym, ap, ◌∙◌, subst, append-nil, arith}
use Rattle.std.proofs.lemmas.Bool.{and_parts, and_from, both_ways}
use Rattle.std.proofs.lemmas.Bool.Decides.{nat_tests}
use Rattle.std.proofs.lemmas.Grind.{common_steps}
use Rattle.std.proofs.lemmas.List.Elements.{All-head, All-tail, All-contains}
use Rattle.std.proofs.lemmas.List.Sums.{AllPass-from_list_all}
use Rattle.std.specs.List.{All, flat_map, list_all}
use Rattle.std.specs.Prelude.{Result, Ok, Err, IsErrAnd}
use Rattle.std.specs.Option.{option_map}
use Rattle.mail_wire.specs.Lines.{first_line, is_crlf, begun_with}
use Rattle.mail_wire.proofs.AllLemmas.{pass-append, pass-front, pass-weaker}
use Rattle.mail_wire.proofs.FirstLineLemmas.{first_line-other}
use Rattle.imap_words.specs.Languages.{Then, After, Or, Is, IsOctet, IsBetween, SaysItself, Maybe, IsTail, IsMoreThan, IsList, IsViable}
use Rattle.imap_words.specs.Reading.{always, never, Reads, StopsReading}
use Rattle.imap_words.specs.Tokens.{IsNumber32, IsNonZero, IsRunOf, IsImapAtom, IsTag, is_digit, is_atom_char, is_astring_char, is_list_char, is_tag_char, is_name_char, is_quoted_text, is_quoted_special, IsSpace, passes}
use Rattle.imap_words.specs.Keywords.{Named, IsWordOf, upper}
use Rattle.imap_words.specs.Strings.{HeadValue, whole, literal, IsHead, IsNameHead, after_head, after_name_head, head_value, IsHeader, IsNameHeader, IsPositive, IsQuoted, IsQuotedName, QuotedChar, text, escaped, high, IsQuotedChar, quoted_spelling, IsHighChar, IsUtf8Three, IsUtf8Four, IsUtf8Tail}
use Rattle.imap_words.specs.Sets.{IsSeqNumber, IsSeqRange, IsSetAndSpace}
use Rattle.imap_words.specs.Dates.{IsDigit, IsTwoDigits, IsFourDigits, IsDateDayFixed, IsTime, IsZone, IsDateTimeText, IsDateTime, months}
use Rattle.imap_words.specs.declared.stop.Stop.{Stop}
use Rattle.imap_words.specs.declared.stop.Stop.TheVariants.{More}
use Rattle.imap_words.specs.declared.tokens.Kind.{Kind}
use Rattle.imap_words.specs.declared.tokens.Kind.TheVariants as kind
use Rattle.imap_words.specs.declared.strings.Head.{Head}
use Rattle.imap_words.specs.declared.strings.Head.TheVariants.{Whole}
use Rattle.imap_words.proofs.Starting.{same_or_not}

-- ---- octets without CR

abbrev pub no_return : ℕ → Bool
no_return x = not (x == 13)

abbrev pub IsFlat : List ℕ → Type 0
IsFlat octets = list_all no_return octets ≡ true

pub flat_one : (x : ℕ) → no_return x ≡ true → IsFlat (x ∷ [])
flat_one x e = and_from (no_return x) true e refl

pub not_crlf : (x y : ℕ) → no_return x ≡ true → is_crlf x y ≡ false
not_crlf x y e = grind (arith, common_steps, nat_tests, e)

pub none_here : first_line [] ≡ None
unfolding first_line
none_here = refl

none_one : (x : ℕ) → first_line (x ∷ []) ≡ None
unfolding first_line
none_one x = refl

none_more : (x : ℕ) (xs : List ℕ) → no_return x ≡ true → first_line xs ≡ None → first_line (x ∷ xs) ≡ None
none_more x [] flat none = none_one x
none_more x (y ∷ xs) flat none = first_line-other x y xs (not_crlf x y flat) ∙ ap (option_map (begun_with x)) none

-- octets without CR before a text end no line in it
pub open_after : (a b : List ℕ) → IsFlat a → first_line b ≡ None → first_line (a ++ b) ≡ None
open_after [] b flat none = none
open_after (x ∷ a) b flat none =
    let parts = and_parts (no_return x) (list_all no_return a) flat in
    none_more x (a ++ b) parts.0 (open_after a b parts.1 none)

-- ---- words without CR

abbrev pub Flat : {V : Type 0} → (List ℕ → V → Type 0) → Type 0
Flat {V} P = (a : List ℕ) (v : V) → P a v → IsFlat a

module _ {V : Type 0} (P : List ℕ → V → Type 0) (flat : Flat P) where
  pub flat_open : (octets : List ℕ) → IsViable P octets → first_line octets ≡ None
  flat_open octets v =
      subst (λ z. first_line z ≡ None) (append-nil octets) (open_after octets [] (pass-front no_return octets v.rest (flat (octets ++ v.rest) v.value v.is_word)) none_here)

  pub flat_joins : (p : V → ℕ → Bool) (octets rest : List ℕ) (v : V) → Reads P p octets v rest → first_line rest ≡ None → first_line octets ≡ None
  flat_joins p octets rest v r none = subst (λ z. first_line z ≡ None) (sym r.whole) (open_after r.word rest (flat r.word v r.is_word) none)

pub is_flat : {V : Type 0} (v : V) → Flat (Is v)
is_flat v a w is = subst IsFlat (sym is.0) refl

pub octet_flat : (x : ℕ) → no_return x ≡ true → Flat (IsOctet x)
octet_flat x ok a v is = subst IsFlat (sym is.0) (flat_one x ok)

pub then_flat : {V W : Type 0} (P : List ℕ → V → Type 0) (Q : V → List ℕ → W → Type 0) → Flat P → ((u : V) → Flat (Q u)) → Flat (Then P Q)
then_flat P Q first second a w is = subst IsFlat (sym is.whole) (pass-append no_return is.front is.back (first is.front is.value is.first) (second is.value is.back w is.second))

pub or_flat : {V : Type 0} (P Q : List ℕ → V → Type 0) → Flat P → Flat Q → Flat (Or P Q)
or_flat P Q p q a v (inl is) = p a v is
or_flat P Q p q a v (inr is) = q a v is

pub maybe_flat : {V : Type 0} (P : List ℕ → V → Type 0) → Flat P → Flat (Maybe P)
maybe_flat P p = or_flat (Is None) _ (is_flat None) (then_flat P _ p (λ v. is_flat (Some v)))

pub itself_flat : {V : Type 0} (P : List ℕ → V → Type 0) → Flat P → Flat (SaysItself P)
itself_flat P p a v is = p a is.says is.is_word

module _ {V W E : Type 0} (Separator : List ℕ → W → Type 0) (P : List ℕ → V → Type 0) (End : List ℕ → E → Type 0) (sep : Flat Separator) (each : Flat P) (end : Flat End) where
  tail_flat : (a : List ℕ) (values : List V) → IsTail Separator P End a values → IsFlat a
  tail_flat a [] is = end a is.0 is.1
  tail_flat a (v ∷ values) is =
      subst IsFlat (sym is.4) (pass-append no_return is.1 (is.2 ++ is.3) (sep is.1 is.0 is.5) (pass-append no_return is.2 is.3 (each is.2 v is.6) (tail_flat is.3 values is.7)))

  pub more_flat : (begun : List V) → Flat (IsMoreThan Separator P End begun)
  more_flat begun a values is = tail_flat a is.0 is.2

  pub list_flat : Flat (IsList Separator P End)
  list_flat = then_flat P _ each (λ first. more_flat (first ∷ []))

-- ---- tokens

atom_ok : (x : ℕ) → is_atom_char x ≡ true → no_return x ≡ true
unfolding is_atom_char
atom_ok x e = grind (arith, common_steps, nat_tests, e)

pub astring_ok : (x : ℕ) → is_astring_char x ≡ true → no_return x ≡ true
unfolding is_atom_char is_astring_char
astring_ok x e = grind (arith, common_steps, nat_tests, e)

pub list_ok : (x : ℕ) → is_list_char x ≡ true → no_return x ≡ true
unfolding is_atom_char is_list_char
list_ok x e = grind (arith, common_steps, nat_tests, e)

tag_ok : (x : ℕ) → is_tag_char x ≡ true → no_return x ≡ true
unfolding is_atom_char is_astring_char is_tag_char
tag_ok x e = grind (arith, common_steps, nat_tests, e)

name_ok : (x : ℕ) → is_name_char x ≡ true → no_return x ≡ true
unfolding is_name_char
name_ok x e = grind (arith, common_steps, nat_tests, e)

pub digit_ok : (x : ℕ) → is_digit x ≡ true → no_return x ≡ true
unfolding is_digit
digit_ok x e = grind (arith, common_steps, nat_tests, e)

text_ok : (x : ℕ) → is_quoted_text x ≡ true → no_return x ≡ true
unfolding is_quoted_text
text_ok x e = grind (arith, common_steps, nat_tests, e)

special_ok : (x : ℕ) → is_quoted_special x ≡ true → no_return x ≡ true
special_ok x e = grind (arith, common_steps, nat_tests, e)

high_ok : (x : ℕ) → 13 < x → no_return x ≡ true
high_ok x e = grind (arith, common_steps, nat_tests, e)

pub run_flat : (p : ℕ → Bool) → ((x : ℕ) → p x ≡ true → no_return x ≡ true) → Flat (IsRunOf p)
run_flat p ok a v is = pass-weaker p no_return ok a is.passes

kind_ok : (k : Kind) (x : ℕ) → passes k x ≡ true → no_return x ≡ true
kind_ok kind.Atom x e = atom_ok x e
kind_ok kind.Astring x e = astring_ok x e
kind_ok kind.ListMailbox x e = list_ok x e
kind_ok kind.Tag x e = tag_ok x e
kind_ok kind.FieldName x e = name_ok x e
kind_ok kind.NameAstring x e = astring_ok x (and_parts (is_astring_char x) (is_name_char x) e).0

pub atom_flat : Flat IsImapAtom
atom_flat = run_flat is_atom_char atom_ok

pub tag_flat : Flat IsTag
tag_flat = run_flat is_tag_char tag_ok

pub number_flat : Flat IsNumber32
number_flat a v is = pass-weaker is_digit no_return digit_ok a is.digits

pub non_zero_flat : Flat IsNonZero
non_zero_flat a v is = number_flat a v is.is_number

pub space_flat : Flat IsSpace
space_flat = octet_flat 32 refl

between_flat : (low top : ℕ) → 13 < low → Flat (IsBetween low top)
between_flat low top above a v is = subst IsFlat (sym is.is) (flat_one v (high_ok v (omega (arith, above, is.from))))

upper_ok : (x : ℕ) → no_return (upper x) ≡ true → no_return x ≡ true
upper_ok x e = elim (same_or_not x 13) [
  | inl same ↦ absurd (both_ways (no_return 13) refl (subst (λ z. no_return (upper z) ≡ true) same e))
  | inr other ↦ grind (arith, common_steps, nat_tests, other)
]

upper_flat : (a : List ℕ) → IsFlat (map upper a) → IsFlat a
upper_flat [] flat = refl
upper_flat (x ∷ a) flat =
    let parts = and_parts (no_return (upper x)) (list_all no_return (map upper a)) flat in
    and_from (no_return x) (list_all no_return a) (upper_ok x parts.0) (upper_flat a parts.1)

module _ {V : Type 0} where
  abbrev pub flat_words : List (Named V) → Bool
  flat_words table = list_all (λ (e : Named V). list_all no_return e.word) table

  pub word_flat : (table : List (Named V)) → flat_words table ≡ true → Flat (IsWordOf table)
  word_flat table all a v is = upper_flat a (subst IsFlat (sym is.word)
      (All-contains (λ (e : Named V). IsFlat e.word) table is.entry (AllPass-from_list_all (λ (e : Named V). list_all no_return e.word) table all) is.known))

-- ---- quoted strings

high_flat : Flat IsHighChar
high_flat = or_flat _ _ (then_flat _ _ (between_flat 194 223 (omega arith)) (λ _. one_tail)) (or_flat _ _ three four)
  where
    one_tail : Flat IsUtf8Tail
    one_tail = between_flat 128 191 (omega arith)

    two_tails : Flat (After IsUtf8Tail IsUtf8Tail)
    two_tails = then_flat _ _ one_tail (λ _. one_tail)

    three : Flat IsUtf8Three
    three =
        or_flat _ _ (then_flat _ _ (octet_flat 224 refl) (λ _. then_flat _ _ (between_flat 160 191 (omega arith)) (λ _. one_tail)))
        (or_flat _ _ (then_flat _ _ (between_flat 225 236 (omega arith)) (λ _. two_tails))
        (or_flat _ _ (then_flat _ _ (octet_flat 237 refl) (λ _. then_flat _ _ (between_flat 128 159 (omega arith)) (λ _. one_tail)))
        (then_flat _ _ (between_flat 238 239 (omega arith)) (λ _. two_tails))))

    four : Flat IsUtf8Four
    four =
        or_flat _ _ (then_flat _ _ (octet_flat 240 refl) (λ _. then_flat _ _ (between_flat 144 191 (omega arith)) (λ _. two_tails)))
        (or_flat _ _ (then_flat _ _ (between_flat 241 243 (omega arith)) (λ _. then_flat _ _ one_tail (λ _. two_tails)))
        (then_flat _ _ (octet_flat 244 refl) (λ _. then_flat _ _ (between_flat 128 143 (omega arith)) (λ _. two_tails))))

spelling_flat : (utf8 : Bool) (item : QuotedChar) → IsQuotedChar utf8 item → IsFlat (quoted_spelling item)
spelling_flat utf8 (text x) is = flat_one x (text_ok x is)
spelling_flat utf8 (escaped x) is = flat_one x (special_ok x is)
spelling_flat utf8 (high octets) is = high_flat octets is.1.0 is.1.1

items_flat : (utf8 : Bool) (items : List QuotedChar) → All (IsQuotedChar utf8) items → IsFlat (flat_map quoted_spelling items)
items_flat utf8 [] all = refl
items_flat utf8 (item ∷ items) all =
    pass-append no_return (quoted_spelling item) (flat_map quoted_spelling items) (spelling_flat utf8 item (All-head (IsQuotedChar utf8) item items all)) (items_flat utf8 items (All-tail (IsQuotedChar utf8) item items all))

pub quoted_flat : (utf8 : Bool) → Flat (IsQuoted utf8)
quoted_flat utf8 a v is = subst IsFlat (sym is.spelled) (pass-append no_return (flat_map quoted_spelling is.items) (34 ∷ []) (items_flat utf8 is.items is.each) refl)

name_flat : Flat IsQuotedName
name_flat a v is = quoted_flat false a v is.is_quoted

-- ---- sets and dates

seq_number_flat : Flat IsSeqNumber
seq_number_flat = or_flat _ _ (then_flat _ _ non_zero_flat (λ n. is_flat (Some n))) (then_flat _ _ (octet_flat 42 refl) (λ _. is_flat None))

seq_range_flat : Flat IsSeqRange
seq_range_flat = then_flat _ _ seq_number_flat (λ first. or_flat _ _ (is_flat (first, first)) (then_flat _ _ (octet_flat 58 refl) (λ _. then_flat _ _ seq_number_flat (λ last. is_flat (first, last)))))

pub set_flat : Flat IsSetAndSpace
set_flat = list_flat _ _ _ (octet_flat 44 refl) seq_range_flat space_flat

digit_flat : Flat IsDigit
digit_flat a v is = subst IsFlat (sym is.is) (flat_one v (digit_ok v is.digit))

two_flat : Flat IsTwoDigits
two_flat = then_flat _ _ digit_flat (λ _. digit_flat)

four_flat : Flat IsFourDigits
four_flat = then_flat _ _ two_flat (λ _. two_flat)

day_flat : Flat IsDateDayFixed
day_flat = or_flat _ _ (then_flat _ _ space_flat (λ _. digit_flat)) two_flat

time_flat : Flat IsTime
time_flat = then_flat _ _ two_flat (λ _. then_flat _ _ (octet_flat 58 refl) (λ _. then_flat _ _ two_flat (λ _. then_flat _ _ (octet_flat 58 refl) (λ _. two_flat))))

zone_flat : Flat IsZone
zone_flat = then_flat _ _ (or_flat _ _ (octet_flat 43 refl) (octet_flat 45 refl)) (λ _. four_flat)

date_text_flat : Flat IsDateTimeText
date_text_flat =
    then_flat _ _ day_flat (λ _. then_flat _ _ (octet_flat 45 refl) (λ _. then_flat _ _ (word_flat months refl) (λ _. then_flat _ _ (octet_flat 45 refl) (λ _. then_flat _ _ four_flat (λ _.
    then_flat _ _ space_flat (λ _. then_flat _ _ time_flat (λ _. then_flat _ _ space_flat (λ _. zone_flat))))))))

pub date_flat : Flat IsDateTime
date_flat = then_flat _ _ (octet_flat 34 refl) (λ _. then_flat _ _ (itself_flat _ date_text_flat) (λ date. then_flat _ _ (octet_flat 34 refl) (λ _. is_flat date)))

-- ---- the steps of readers that go no further than a line's end

pub no_octet : (octets : List ℕ) → length octets ≡ 0 → first_line octets ≡ None
no_octet [] e = none_here
no_octet (x ∷ octets) e = absurd (omega (arith, e))

-- the exit of `?` where more is asked for
pub exit_more : {T : Type 0} (r : Result T Stop) (s : Stop) → IsErrAnd r (λ y. y ≡ s) → r ≡ Err More → s ≡ More
exit_more {T} (Ok x) s failed e = absurd failed
exit_more {T} (Err y) s failed e = let is : y ≡ More = cc e in sym failed ∙ is

-- an octet before a text
pub first_joins : (x : ℕ) (octets : List ℕ) (y : ℕ) (rest : List ℕ) → octets ≡ y ∷ rest → y ≡ x → no_return x ≡ true → first_line rest ≡ None → first_line octets ≡ None
first_joins x octets y rest e same ok none = subst (λ z. first_line z ≡ None) (sym (e ∙ ap (λ z. z ∷ rest) same)) (none_more x rest ok none)

-- whichever octet it is, a text that can go on as it has one at most
pub octet_open : (x : ℕ) (octets : List ℕ) → StopsReading (IsOctet x) never octets More → first_line octets ≡ None
octet_open x [] v = none_here
octet_open x (y ∷ []) v = none_one y
octet_open x (y ∷ z ∷ octets) v = absurd (too_many y z (octets ++ v.rest) v.is_word.0)
  where
    too_many : (y z : ℕ) (more : List ℕ) → y ∷ z ∷ more ≡ x ∷ [] → ⊥
    too_many y z more e = cc e

pub octet_joins : (x : ℕ) (octets rest : List ℕ) → Reads (IsOctet x) never octets x rest → no_return x ≡ true → first_line rest ≡ None → first_line octets ≡ None
octet_joins x octets rest r ok none = flat_joins (IsOctet x) (octet_flat x ok) never octets rest x r none

-- after CR the text is at its end
pub return_last : (octets rest : List ℕ) → Reads (IsOctet 13) never octets 13 rest → rest ≡ [] → first_line octets ≡ None
return_last octets rest r none = subst (λ z. first_line z ≡ None) (sym (r.whole ∙ (ap (λ z. r.word ++ z) none ∙ (append-nil r.word ∙ r.is_word.0)))) (none_one 13)

pub run_open : (k : Kind) (octets : List ℕ) → StopsReading (IsRunOf (passes k)) (always (passes k)) octets More → first_line octets ≡ None
run_open k octets v = flat_open (IsRunOf (passes k)) (run_flat (passes k) (kind_ok k)) octets v

pub atom_open : (octets : List ℕ) → StopsReading IsImapAtom (always is_atom_char) octets More → first_line octets ≡ None
atom_open octets v = flat_open IsImapAtom atom_flat octets v

pub atom_joins : (octets v rest : List ℕ) → Reads IsImapAtom (always is_atom_char) octets v rest → first_line rest ≡ None → first_line octets ≡ None
atom_joins octets v rest r none = flat_joins IsImapAtom atom_flat (always is_atom_char) octets rest v r none

pub tag_open : (octets : List ℕ) → StopsReading IsTag (always is_tag_char) octets More → first_line octets ≡ None
tag_open octets v = flat_open IsTag tag_flat octets v

pub tag_joins : (octets v rest : List ℕ) → Reads IsTag (always is_tag_char) octets v rest → first_line rest ≡ None → first_line octets ≡ None
tag_joins octets v rest r none = flat_joins IsTag tag_flat (always is_tag_char) octets rest v r none

pub number_open : (octets : List ℕ) → StopsReading IsNumber32 (always is_digit) octets More → first_line octets ≡ None
number_open octets v = flat_open IsNumber32 number_flat octets v

pub number_joins : (octets : List ℕ) (n : ℕ) (rest : List ℕ) → Reads IsNumber32 (always is_digit) octets n rest → first_line rest ≡ None → first_line octets ≡ None
number_joins octets n rest r none = flat_joins IsNumber32 number_flat (always is_digit) octets rest n r none

positive_flat : Flat IsPositive
positive_flat a v is = number_flat a v is.is_number

pub positive_open : (octets : List ℕ) → StopsReading IsPositive (always is_digit) octets More → first_line octets ≡ None
positive_open octets v = flat_open IsPositive positive_flat octets v

pub positive_joins : (octets : List ℕ) (n : ℕ) (rest : List ℕ) → Reads IsPositive (always is_digit) octets n rest → first_line rest ≡ None → first_line octets ≡ None
positive_joins octets n rest r none = flat_joins IsPositive positive_flat (always is_digit) octets rest n r none

pub quoted_open : (utf8 : Bool) (octets : List ℕ) → StopsReading (IsQuoted utf8) never octets More → first_line octets ≡ None
quoted_open utf8 octets v = flat_open (IsQuoted utf8) (quoted_flat utf8) octets v

pub quoted_name_open : (octets : List ℕ) → StopsReading IsQuotedName never octets More → first_line octets ≡ None
quoted_name_open octets v = flat_open IsQuotedName name_flat octets v

pub set_open : (octets : List ℕ) → StopsReading IsSetAndSpace never octets More → first_line octets ≡ None
set_open octets v = flat_open IsSetAndSpace set_flat octets v

-- a string that was read whole
head_joins : (k : Kind) (H : List ℕ → HeadValue → Type 0) → ((a v : List ℕ) → H a (whole v) → IsFlat a) → (octets rest : List ℕ) (head : Head) (v : List ℕ) → Reads H (after_head k) octets (head_value head) rest → head ≡ Whole v
    → first_line rest ≡ None → first_line octets ≡ None
head_joins k H flat octets rest head v r is none =
    subst (λ z. first_line z ≡ None) (sym r.whole) (open_after r.word rest (flat r.word v (subst (λ z. H r.word (head_value z)) is r.is_word)) none)

heads_flat : (k : Kind) (Q : List ℕ → List ℕ → Type 0) (N : List ℕ → ℕ → Type 0) → Flat Q → (a v : List ℕ) → Or (Then (IsRunOf (passes k)) (λ v. Is (whole v))) (Or (Then Q (λ v. Is (whole v))) (Then N (λ n. Is (literal n)))) a (whole v) → IsFlat a
heads_flat k Q N flat a v (inl run) = then_flat (IsRunOf (passes k)) _ (run_flat (passes k) (kind_ok k)) (λ u. is_flat (whole u)) a (whole v) run
heads_flat k Q N flat a v (inr (inl quoted)) = then_flat Q _ flat (λ u. is_flat (whole u)) a (whole v) quoted
heads_flat k Q N flat a v (inr (inr header)) = absurd (other header.value header.second.1)
  where
    other : (n : ℕ) → whole v ≡ literal n → ⊥
    other n e = cc e

pub astring_joins : (utf8 : Bool) (octets rest : List ℕ) (head : Head) (v : List ℕ) → Reads (IsHead utf8 kind.Astring) (after_head kind.Astring) octets (head_value head) rest → head ≡ Whole v → first_line rest ≡ None → first_line octets ≡ None
astring_joins utf8 octets rest head v r is none = head_joins kind.Astring (IsHead utf8 kind.Astring) (heads_flat kind.Astring (IsQuoted utf8) IsHeader (quoted_flat utf8)) octets rest head v r is none

pub pattern_joins : (utf8 : Bool) (octets rest : List ℕ) (head : Head) (v : List ℕ) → Reads (IsHead utf8 kind.ListMailbox) (after_head kind.ListMailbox) octets (head_value head) rest → head ≡ Whole v → first_line rest ≡ None → first_line octets ≡ None
pattern_joins utf8 octets rest head v r is none = head_joins kind.ListMailbox (IsHead utf8 kind.ListMailbox) (heads_flat kind.ListMailbox (IsQuoted utf8) IsHeader (quoted_flat utf8)) octets rest head v r is none

pub name_joins : (octets rest : List ℕ) (head : Head) (v : List ℕ) → Reads IsNameHead after_name_head octets (head_value head) rest → head ≡ Whole v → first_line rest ≡ None → first_line octets ≡ None
name_joins octets rest head v r is none = head_joins kind.NameAstring IsNameHead (heads_flat kind.NameAstring IsQuotedName IsNameHeader name_flat) octets rest head v r is none
