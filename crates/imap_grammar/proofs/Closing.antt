-- Each command ends with a line's end that stands in no literal.
use Rattle.std.proofs.Common.{◌≡◌, ℕ, Bool, true, false, List, [], ◌∷◌, ◌++◌, length, Option, Some, None, inl, inr, refl, sym, ap, ◌∙◌, subst, append_assoc, append-nil}
use Rattle.std.proofs.lemmas.Bool.{and_parts}
use Rattle.std.proofs.lemmas.List.Concat.{flat_map-append}
use Rattle.std.proofs.lemmas.List.Elements.{All-nil, All-cons, All-head, All-tail, All-append}
use Rattle.std.specs.List.{All, flat_map, list_all}
use Rattle.std.specs.Option.{option_map}
use Rattle.mail_wire.specs.Lines.{Cut, first_line, begun_with}
use Rattle.mail_wire.proofs.AllLemmas.{pass-append, pass-weaker}
use Rattle.mail_wire.proofs.FirstLineLemmas.{first_line-other, first_line-crlf}
use Rattle.imap_words.specs.Languages.{Then, Or, Is, IsOctet, IsCounted, Maybe, IsTail, IsList}
use Rattle.imap_words.specs.Tokens.{IsNumber32, IsNonZero, IsCrlf, is_digit, is_astring_char, is_list_char, IsSpace, IsImapAtom, IsTag}
use Rattle.imap_words.specs.Keywords.{Named, IsWordOf}
use Rattle.imap_words.specs.Strings.{IsHeader, IsHeader8, IsLiteral, IsString, IsAstring, IsListMailbox, IsHeaderName}
use Rattle.imap_words.specs.Sets.{IsSetAndSpace}
use Rattle.imap_words.specs.Dates.{IsDateTime}
use Rattle.imap_grammar.specs.Flags.{IsFlag, IsFlagList, IsFlagsToEnd, storing_words}
use Rattle.imap_grammar.specs.Fetching.{IsHeaderList, text_words, IsAfterWord, IsSectionPart, IsSectionSpec, IsSection, IsPartial, item_words, macro_words, IsSectionItem, IsAfterItem, IsFetchAtt, IsFetchItems}
use Rattle.imap_grammar.specs.Commands.{Tagged, Announced, AppendFront, IsBareCommand, IsLoginCommand, IsEnable, IsNaming, IsListing, status_words, IsStatusItems, IsStatus, utf8_words, IsDataFront, IsDataEnd, IsAppendFront, IsAppend, IsFetch, IsStore, IsNotHere, uid_names, IsAfterUid, IsUid, command_names, IsAfterName, IsCommand}
use Rattle.imap_grammar.specs.Events.{IsWholeLine, LiteralLine, IsLiteralLine, literal_line, EndsCommandLine, Announces, append_words, IsAppending, Appends}
use Rattle.imap_grammar.specs.declared.command.Command.{Command}
use Rattle.imap_grammar.specs.declared.words.ItemWord.{ItemWord}
use Rattle.imap_grammar.specs.declared.words.ItemWord.TheVariants as word
use Rattle.imap_grammar.specs.declared.words.SectionWord.{SectionWord}
use Rattle.imap_grammar.specs.declared.words.SectionWord.TheVariants as section
use Rattle.imap_grammar.specs.declared.words.Name.{Name}
use Rattle.imap_grammar.specs.declared.words.Name.TheVariants as name
use Rattle.imap_grammar.specs.declared.words.UidName.{UidName}
use Rattle.imap_grammar.specs.declared.words.UidName.TheVariants as uid
use Rattle.imap_words.proofs.InLine.{no_return, IsFlat, not_crlf, Flat, is_flat, octet_flat, then_flat, or_flat, itself_flat, list_flat, run_flat, astring_ok, list_ok, digit_ok, atom_flat, tag_flat, number_flat, non_zero_flat, space_flat, flat_words, word_flat, quoted_flat, set_flat, date_flat}
use Rattle.imap_grammar.proofs.LineLaws.{header_form, crlf_spelled}

-- ---- lines after octets without CR

first_more : (x : ℕ) (xs : List ℕ) (cut : Cut) → no_return x ≡ true → first_line xs ≡ Some cut → first_line (x ∷ xs) ≡ Some (begun_with x cut)
unfolding first_line
first_more x [] cut flat e = cc e
first_more x (y ∷ xs) cut flat e = first_line-other x y xs (not_crlf x y flat) ∙ ap (option_map (begun_with x)) e

pub flat_line : (front line : List ℕ) → IsFlat front → IsWholeLine line → IsWholeLine (front ++ line)
flat_line [] line flat is = is
flat_line (x ∷ front) line flat is =
    let parts = and_parts (no_return x) (list_all no_return front) flat in
    first_more x (front ++ line) (record { line = front ++ line; rest = [] }) parts.0 (flat_line front line parts.1 is)

pub crlf_line : IsWholeLine (13 ∷ 10 ∷ [])
crlf_line = first_line-crlf 13 10 [] refl

-- ---- octets that end a line

-- what the last line ends with: anything, or the header of a literal of this size
abbrev pub LastHas : Option ℕ → List ℕ → Type 0
LastHas None line = Unit {0}
LastHas (Some size) line = (front : List ℕ) × (header : List ℕ) × (line ≡ front ++ header) × IsHeader header size

pub record Ends (kind : Option ℕ) (octets : List ℕ) : Type 0 where
  pub before : List LiteralLine
  pub line : List ℕ
  pub whole : octets ≡ flat_map literal_line before ++ line
  pub each : All IsLiteralLine before
  pub is_line : IsWholeLine line
  pub has : LastHas kind line

pub ends_line : (octets : List ℕ) → Ends None octets → EndsCommandLine octets
ends_line octets e = record { before = e.before; line = e.line; whole = e.whole; each = e.each; is_line = e.is_line }

pub line_ends : (octets : List ℕ) → EndsCommandLine octets → Ends None octets
line_ends octets e = record { before = e.before; line = e.line; whole = e.whole; each = e.each; is_line = e.is_line; has = tt }

pub ends_announces : (octets : List ℕ) (size : ℕ) → Ends (Some size) octets → Announces octets size
ends_announces octets size e = record { before = e.before; line = e.line; front = e.has.0; header = e.has.1; whole = e.whole; each = e.each; is_line = e.is_line; ends = e.has.2; is_header = e.has.3 }

pub announces_has : (octets : List ℕ) (size : ℕ) → Announces octets size → Ends (Some size) octets
announces_has octets size a = record { before = a.before; line = a.line; whole = a.whole; each = a.each; is_line = a.is_line; has = (a.front, a.header, a.ends, a.is_header) }

pub one_line : (kind : Option ℕ) (line : List ℕ) → IsWholeLine line → LastHas kind line → Ends kind line
one_line kind line is has = record { before = []; line = line; whole = refl; each = All-nil IsLiteralLine; is_line = is; has = has }

has_more : (kind : Option ℕ) (a line : List ℕ) → LastHas kind line → LastHas kind (a ++ line)
has_more None a line has = tt
has_more (Some size) a line has = (a ++ has.0, has.1, ap (λ z. a ++ z) has.2 ∙ sym (append_assoc a has.0 has.1), has.3)

flat_before : (kind : Option ℕ) (a line : List ℕ) (before : List LiteralLine) (b : List ℕ) → IsFlat a → b ≡ flat_map literal_line before ++ line → All IsLiteralLine before → IsWholeLine line → LastHas kind line → Ends kind (a ++ b)
flat_before kind a line [] b flat e each is has = record { before = []; line = a ++ line; whole = ap (λ z. a ++ z) e; each = All-nil IsLiteralLine; is_line = flat_line a line flat is; has = has_more kind a line has }
flat_before kind a line (l ∷ before) b flat e each is has =
    let first = All-head IsLiteralLine l before each in
    record {
      before = record { line = a ++ l.line; literal = l.literal } ∷ before;
      line = line;
      whole = ap (λ z. a ++ z) e ∙ regroup a l.line l.literal (flat_map literal_line before) line;
      each = All-cons IsLiteralLine (record { line = a ++ l.line; literal = l.literal }) before
          (record { front = a ++ first.front; header = first.header; is_line = flat_line a l.line flat first.is_line; whole = ap (λ z. a ++ z) first.whole ∙ sym (append_assoc a first.front first.header); is_header = first.is_header })
          (All-tail IsLiteralLine l before each);
      is_line = is;
      has = has;
    }
  where
    regroup : (a l m f line : List ℕ) → a ++ (((l ++ m) ++ f) ++ line) ≡ (((a ++ l) ++ m) ++ f) ++ line
    regroup a l m f line = sym (append_assoc a ((l ++ m) ++ f) line) ∙ ap (λ z. z ++ line) (sym (append_assoc a (l ++ m) f) ∙ ap (λ z. z ++ f) (sym (append_assoc a l m)))

pub flat_ends : (kind : Option ℕ) (a b : List ℕ) → IsFlat a → Ends kind b → Ends kind (a ++ b)
flat_ends kind a b flat e = flat_before kind a e.line e.before b flat e.whole e.each e.is_line e.has

-- after what announces a literal: the literal, and then what ends a line
pub after_announced : (kind : Option ℕ) (a literal b : List ℕ) (size : ℕ) → Ends (Some size) a → length literal ≡ size → Ends kind b → Ends kind (a ++ (literal ++ b))
after_announced kind a literal b size is sized e = record {
  before = is.before ++ mine ∷ e.before;
  line = e.line;
  whole = rw (is.whole, e.whole) (regroup (flat_map literal_line is.before) is.line literal (flat_map literal_line e.before) e.line ∙ ap (λ z. z ++ e.line) (sym (flat_map-append literal_line is.before (mine ∷ e.before))));
  each = All-append IsLiteralLine is.before (mine ∷ e.before) is.each (All-cons IsLiteralLine mine e.before is_mine e.each);
  is_line = e.is_line;
  has = e.has;
}
  where
    mine : LiteralLine
    mine = record { line = is.line; literal = literal }

    is_mine : IsLiteralLine (record { line = is.line; literal = literal })
    is_mine = record { front = is.has.0; header = is.has.1; is_line = is.is_line; whole = is.has.2; is_header = subst (λ z. IsHeader is.has.1 z) (sym sized) is.has.3 }

    regroup : (f l m g line : List ℕ) → (f ++ l) ++ (m ++ (g ++ line)) ≡ (f ++ ((l ++ m) ++ g)) ++ line
    regroup f l m g line =
        append_assoc f l (m ++ (g ++ line)) ∙ (ap (λ z. f ++ z) (sym (append_assoc l m (g ++ line)) ∙ sym (append_assoc (l ++ m) g line)) ∙ sym (append_assoc f ((l ++ m) ++ g) line))

-- ---- kinds of languages

-- parts of a line, with literals: what ends a line does so after them
abbrev pub Weaves : {V : Type 0} → (List ℕ → V → Type 0) → Type 0
Weaves {V} P = (kind : Option ℕ) (a b : List ℕ) (v : V) → P a v → Ends kind b → Ends kind (a ++ b)

-- words that end a line, and what the last one has
abbrev pub Closes : {V : Type 0} → (V → Option ℕ) → (List ℕ → V → Type 0) → Type 0
Closes {V} kind P = (a : List ℕ) (v : V) → P a v → Ends (kind v) a

abbrev pub plain : {V : Type 0} → V → Option ℕ
plain v = None

pub flat_weaves : {V : Type 0} (P : List ℕ → V → Type 0) → Flat P → Weaves P
flat_weaves P flat kind a b v is e = flat_ends kind a b (flat a v is) e

-- ---- how they are composed

pub is_weaves : {V : Type 0} (v : V) → Weaves (Is v)
is_weaves v kind a b w is e = subst (λ z. Ends kind (z ++ b)) (sym is.0) e

module _ {V W : Type 0} (P : List ℕ → V → Type 0) (Q : V → List ℕ → W → Type 0) where
  pub then_weaves : Weaves P → ((u : V) → Weaves (Q u)) → Weaves (Then P Q)
  then_weaves first second kind a b w is e =
      subst (λ z. Ends kind z) (sym (ap (λ z. z ++ b) is.whole ∙ append_assoc is.front is.back b)) (first kind is.front (is.back ++ b) is.value is.first (second is.value kind is.back b w is.second e))

  pub then_closes : (kind : W → Option ℕ) → Weaves P → ((u : V) → Closes kind (Q u)) → Closes kind (Then P Q)
  then_closes kind first second a w is = subst (λ z. Ends (kind w) z) (sym is.whole) (first (kind w) is.front is.back is.value is.first (second is.value is.back w is.second))

-- a word that ends the line, and nothing after it
pub closed : {V W : Type 0} (P : List ℕ → V → Type 0) (f : V → W) (kind : W → Option ℕ) → Closes (λ v. kind (f v)) P → Closes kind (Then P (λ v. Is (f v)))
closed P f kind closes a w is =
    subst (λ z. Ends (kind z) a) (sym is.second.1)
    (subst (λ z. Ends (kind (f is.value)) z) (sym (is.whole ∙ (ap (λ z. is.front ++ z) is.second.0 ∙ append-nil is.front))) (closes is.front is.value is.first))

pub or_weaves : {V : Type 0} (P Q : List ℕ → V → Type 0) → Weaves P → Weaves Q → Weaves (Or P Q)
or_weaves P Q p q kind a b v (inl is) e = p kind a b v is e
or_weaves P Q p q kind a b v (inr is) e = q kind a b v is e

pub or_closes : {V : Type 0} (P Q : List ℕ → V → Type 0) (kind : V → Option ℕ) → Closes kind P → Closes kind Q → Closes kind (Or P Q)
or_closes P Q kind p q a v (inl is) = p a v is
or_closes P Q kind p q a v (inr is) = q a v is

pub maybe_weaves : {V : Type 0} (P : List ℕ → V → Type 0) → Weaves P → Weaves (Maybe P)
maybe_weaves P p = or_weaves (Is None) _ (is_weaves None) (then_weaves P _ p (λ v. is_weaves (Some v)))

module _ {V W E : Type 0} (Separator : List ℕ → W → Type 0) (P : List ℕ → V → Type 0) (End : List ℕ → E → Type 0) (sep : Weaves Separator) (each : Weaves P) where
  tail_weaves : Weaves End → (kind : Option ℕ) (a b : List ℕ) (values : List V) → IsTail Separator P End a values → Ends kind b → Ends kind (a ++ b)
  tail_weaves end kind a b [] is e = end kind a b is.0 is.1 e
  tail_weaves end kind a b (v ∷ values) is e =
      subst (λ z. Ends kind z) (sym (ap (λ z. z ++ b) is.4 ∙ (append_assoc is.1 (is.2 ++ is.3) b ∙ ap (λ z. is.1 ++ z) (append_assoc is.2 is.3 b))))
      (sep kind is.1 (is.2 ++ (is.3 ++ b)) is.0 is.5 (each kind is.2 (is.3 ++ b) v is.6 (tail_weaves end kind is.3 b values is.7 e)))

  tail_closes : Closes plain End → (a : List ℕ) (values : List V) → IsTail Separator P End a values → Ends None a
  tail_closes end a [] is = end a is.0 is.1
  tail_closes end a (v ∷ values) is =
      subst (λ z. Ends None z) (sym is.4) (sep None is.1 (is.2 ++ is.3) is.0 is.5 (each None is.2 is.3 v is.6 (tail_closes end is.3 values is.7)))

  pub list_weaves : Weaves End → Weaves (IsList Separator P End)
  list_weaves end = then_weaves P _ each (λ first kind a b values is e. tail_weaves end kind a b is.0 is.2 e)

  pub list_closes : Closes plain End → Closes plain (IsList Separator P End)
  list_closes end = then_closes P _ plain each (λ first a values is. tail_closes end a is.0 is.2)

-- ---- tokens

pub octet_weaves : (x : ℕ) → no_return x ≡ true → Weaves (IsOctet x)
octet_weaves x ok = flat_weaves (IsOctet x) (octet_flat x ok)

pub word_weaves : {V : Type 0} (table : List (Named V)) → flat_words table ≡ true → Weaves (IsWordOf table)
word_weaves table all = flat_weaves (IsWordOf table) (word_flat table all)

pub number_weaves : Weaves IsNumber32
number_weaves = flat_weaves IsNumber32 number_flat

non_zero_weaves : Weaves IsNonZero
non_zero_weaves = flat_weaves IsNonZero non_zero_flat

-- ---- strings

-- a header ends its line
pub header_line : (a : List ℕ) (n : ℕ) → IsHeader a n → IsWholeLine a
header_line a n is =
    let f = header_form a n is in
    subst IsWholeLine (sym (f.spelled ∙ split f.digits)) (flat_line (123 ∷ (f.digits ++ 125 ∷ [])) (13 ∷ 10 ∷ []) (flat f.digits f.is_number.digits) crlf_line)
  where
    split : (digits : List ℕ) → 123 ∷ (digits ++ 125 ∷ 13 ∷ 10 ∷ []) ≡ 123 ∷ ((digits ++ 125 ∷ []) ++ 13 ∷ 10 ∷ [])
    split digits = ap (λ z. 123 ∷ z) (sym (append_assoc digits (125 ∷ []) (13 ∷ 10 ∷ [])))

    flat : (digits : List ℕ) → list_all is_digit digits ≡ true → IsFlat (123 ∷ (digits ++ 125 ∷ []))
    flat digits all = pass-append no_return digits (125 ∷ []) (pass-weaker is_digit no_return digit_ok digits all) refl

pub header_closes : Closes (λ (n : ℕ). Some n) IsHeader
header_closes a n is = one_line (Some n) a (header_line a n is) ([], a, refl, is)

-- a literal after what announces it
pub counted_weaves : {V : Type 0} (P : List ℕ → V → Type 0) (size : V → ℕ) → Closes (λ v. Some (size v)) P → Weaves (Then P (λ v. IsCounted (size v)))
counted_weaves P size closes kind a b w is e =
    subst (λ z. Ends kind z) (sym (ap (λ z. z ++ b) is.whole ∙ append_assoc is.front is.back b)) (after_announced kind is.front is.back b (size is.value) (closes is.front is.value is.first) is.second.0 e)

literal_weaves : Weaves IsLiteral
literal_weaves = counted_weaves _ (λ n. n) header_closes

string_weaves : (utf8 : Bool) → Weaves (IsString utf8)
string_weaves utf8 = or_weaves _ _ (flat_weaves _ (quoted_flat utf8)) literal_weaves

pub astring_weaves : (utf8 : Bool) → Weaves (IsAstring utf8)
astring_weaves utf8 = or_weaves _ _ (flat_weaves _ (run_flat is_astring_char astring_ok)) (string_weaves utf8)

pattern_weaves : (utf8 : Bool) → Weaves (IsListMailbox utf8)
pattern_weaves utf8 = or_weaves _ _ (flat_weaves _ (run_flat is_list_char list_ok)) (string_weaves utf8)

name_weaves : (utf8 : Bool) → Weaves (IsHeaderName utf8)
name_weaves utf8 kind a b v is e = astring_weaves utf8 kind a b v is.is_astring e

-- ---- the ends of lines

pub crlf_closes : Closes plain IsCrlf
crlf_closes a v is = one_line None a (subst IsWholeLine (sym (crlf_spelled a is.front is.back is.whole is.first.0 is.second.0)) crlf_line) tt

pub bare_closes : (c : Command) → Closes plain (IsBareCommand c)
bare_closes c a v is = closed _ _ plain (λ a v is. crlf_closes a v is) a v is

-- ---- sets, dates and flags

space_weaves : Weaves IsSpace
space_weaves = octet_weaves 32 refl

set_weaves : Weaves IsSetAndSpace
set_weaves = flat_weaves _ set_flat

date_weaves : Weaves IsDateTime
date_weaves = flat_weaves _ date_flat

atom_weaves : Weaves IsImapAtom
atom_weaves = flat_weaves _ atom_flat

pub flag_flat : Flat IsFlag
flag_flat = or_flat _ _ atom_flat (itself_flat _ (then_flat _ _ (octet_flat 92 refl) (λ _. atom_flat)))

pub flag_list_flat : Flat IsFlagList
flag_list_flat = then_flat _ _ (octet_flat 40 refl) (λ _. or_flat _ _ (then_flat _ _ (octet_flat 41 refl) (λ _. is_flat [])) (list_flat _ _ _ space_flat flag_flat (octet_flat 41 refl)))

flag_weaves : Weaves IsFlag
flag_weaves = flat_weaves _ flag_flat

flag_list_weaves : Weaves IsFlagList
flag_list_weaves = flat_weaves _ flag_list_flat

flags_close : Closes plain IsFlagsToEnd
flags_close = or_closes _ _ plain (then_closes _ _ plain flag_list_weaves (λ flags. closed _ _ plain (λ a v is. crlf_closes a v is))) (list_closes _ _ _ space_weaves flag_weaves (λ a v is. crlf_closes a v is))

-- ---- what FETCH asks

names_weave : (utf8 : Bool) → Weaves (IsHeaderList utf8)
names_weave utf8 = then_weaves _ _ (octet_weaves 40 refl) (λ _. list_weaves _ _ _ space_weaves (name_weaves utf8) (octet_weaves 41 refl))

after_word_weaves : (utf8 : Bool) (w : SectionWord) → Weaves (IsAfterWord utf8 w)
after_word_weaves utf8 section.Header = is_weaves _
after_word_weaves utf8 section.Fields = then_weaves _ _ space_weaves (λ _. then_weaves _ _ (names_weave utf8) (λ names. is_weaves _))
after_word_weaves utf8 section.FieldsNot = then_weaves _ _ space_weaves (λ _. then_weaves _ _ (names_weave utf8) (λ names. is_weaves _))
after_word_weaves utf8 section.Text = is_weaves _
after_word_weaves utf8 section.Mime = is_weaves _

part_weaves : Weaves IsSectionPart
part_weaves = list_weaves _ _ _ (octet_weaves 46 refl) non_zero_weaves (is_weaves 0)

spec_weaves : (utf8 : Bool) → Weaves (IsSectionSpec utf8)
spec_weaves utf8 =
    or_weaves _ _ (then_weaves _ _ (then_weaves _ _ (word_weaves (text_words false) refl) (after_word_weaves utf8)) (λ p. is_weaves _))
    (then_weaves _ _ part_weaves (λ numbers. or_weaves _ _ (is_weaves _) (then_weaves _ _ (octet_weaves 46 refl) (λ _. then_weaves _ _ (then_weaves _ _ (word_weaves (text_words true) refl) (after_word_weaves utf8)) (λ p. is_weaves _)))))

section_weaves : (utf8 : Bool) → Weaves (IsSection utf8)
section_weaves utf8 = then_weaves _ _ (octet_weaves 91 refl) (λ _. then_weaves _ _ (or_weaves _ _ (is_weaves _) (spec_weaves utf8)) (λ s. then_weaves _ _ (octet_weaves 93 refl) (λ _. is_weaves s)))

pub partial_flat : Flat IsPartial
partial_flat =
    then_flat _ _ (octet_flat 60 refl) (λ _. then_flat _ _ number_flat (λ from. then_flat _ _ (octet_flat 46 refl) (λ _. then_flat _ _ non_zero_flat (λ most. then_flat _ _ (octet_flat 62 refl) (λ _. is_flat (from, most))))))

partial_weaves : Weaves IsPartial
partial_weaves = flat_weaves _ partial_flat

section_item_weaves : (utf8 peek : Bool) → Weaves (IsSectionItem utf8 peek)
section_item_weaves utf8 peek = then_weaves _ _ (section_weaves utf8) (λ s. then_weaves _ _ (maybe_weaves _ partial_weaves) (λ partial. is_weaves _))

after_item_weaves : (utf8 : Bool) (w : ItemWord) → Weaves (IsAfterItem utf8 w)
after_item_weaves utf8 word.Flags = is_weaves _
after_item_weaves utf8 word.Uid = is_weaves _
after_item_weaves utf8 word.InternalDate = is_weaves _
after_item_weaves utf8 word.Size = is_weaves _
after_item_weaves utf8 word.Rfc822 = is_weaves _
after_item_weaves utf8 word.Rfc822Header = is_weaves _
after_item_weaves utf8 word.Rfc822Text = is_weaves _
after_item_weaves utf8 word.Envelope = is_weaves _
after_item_weaves utf8 word.BodyStructure = is_weaves _
after_item_weaves utf8 word.Body = or_weaves _ _ (is_weaves _) (section_item_weaves utf8 false)
after_item_weaves utf8 word.BodyPeek = section_item_weaves utf8 true
after_item_weaves utf8 word.All = λ kind a b v is e. absurd is
after_item_weaves utf8 word.Fast = λ kind a b v is e. absurd is
after_item_weaves utf8 word.Full = λ kind a b v is e. absurd is

att_weaves : (utf8 : Bool) → Weaves (IsFetchAtt utf8)
att_weaves utf8 = then_weaves _ _ (word_weaves item_words refl) (after_item_weaves utf8)

items_weave : (utf8 : Bool) → Weaves (IsFetchItems utf8)
items_weave utf8 =
    or_weaves _ _ (then_weaves _ _ (word_weaves macro_words refl) (λ w. is_weaves _))
    (or_weaves _ _ (then_weaves _ _ (att_weaves utf8) (λ i. is_weaves _)) (then_weaves _ _ (octet_weaves 40 refl) (λ _. list_weaves _ _ _ space_weaves (att_weaves utf8) (octet_weaves 41 refl))))

-- ---- commands

login_closes : (utf8 : Bool) → Closes plain (IsLoginCommand utf8)
login_closes utf8 = then_closes _ _ plain space_weaves (λ _. then_closes _ _ plain (astring_weaves utf8) (λ name. then_closes _ _ plain space_weaves (λ _. then_closes _ _ plain (astring_weaves utf8) (λ password. bare_closes _))))

enable_closes : Closes plain IsEnable
enable_closes = then_closes _ _ plain space_weaves (λ _. closed _ _ plain (list_closes _ _ _ space_weaves atom_weaves (λ a v is. crlf_closes a v is)))

naming_closes : (utf8 : Bool) (made : List ℕ → Command) → Closes plain (IsNaming utf8 made)
naming_closes utf8 made = then_closes _ _ plain space_weaves (λ _. then_closes _ _ plain (astring_weaves utf8) (λ mailbox. bare_closes _))

listing_closes : (utf8 : Bool) → Closes plain (IsListing utf8)
listing_closes utf8 = then_closes _ _ plain space_weaves (λ _. then_closes _ _ plain (astring_weaves utf8) (λ reference. then_closes _ _ plain space_weaves (λ _. then_closes _ _ plain (pattern_weaves utf8) (λ pattern. bare_closes _))))

pub status_items_flat : Flat IsStatusItems
status_items_flat = then_flat _ _ (octet_flat 40 refl) (λ _. list_flat _ _ _ space_flat (word_flat status_words refl) (octet_flat 41 refl))

status_items_weave : Weaves IsStatusItems
status_items_weave = flat_weaves _ status_items_flat

status_closes : (utf8 : Bool) → Closes plain (IsStatus utf8)
status_closes utf8 = then_closes _ _ plain space_weaves (λ _. then_closes _ _ plain (astring_weaves utf8) (λ mailbox. then_closes _ _ plain space_weaves (λ _. then_closes _ _ plain status_items_weave (λ items. bare_closes _))))

-- the size that is announced before the data
abbrev pub data_size : AppendFront → Option ℕ
data_size front = Some front.announced.size

data_front_closes : Closes (λ (announced : Announced). Some announced.size) IsDataFront
data_front_closes =
    or_closes _ _ (λ (announced : Announced). Some announced.size) (closed _ _ (λ (announced : Announced). Some announced.size) header_closes)
    (then_closes _ _ (λ (announced : Announced). Some announced.size) (word_weaves utf8_words refl) (λ _. then_closes _ _ (λ (announced : Announced). Some announced.size) space_weaves (λ _.
    then_closes _ _ (λ (announced : Announced). Some announced.size) (octet_weaves 40 refl) (λ _. closed _ _ (λ (announced : Announced). Some announced.size) header8_closes))))
  where
    header8_closes : Closes (λ (n : ℕ). Some n) IsHeader8
    header8_closes = then_closes _ _ (λ (n : ℕ). Some n) (octet_weaves 126 refl) (λ _. header_closes)

pub append_front_closes : (utf8 : Bool) → Closes data_size (IsAppendFront utf8)
append_front_closes utf8 =
    then_closes _ _ data_size space_weaves (λ _. then_closes _ _ data_size (astring_weaves utf8) (λ mailbox. then_closes _ _ data_size (maybe_weaves _ (then_weaves _ _ space_weaves (λ _. flag_list_weaves))) (λ flags.
    then_closes _ _ data_size (maybe_weaves _ (then_weaves _ _ space_weaves (λ _. date_weaves))) (λ date. then_closes _ _ data_size space_weaves (λ _. closed _ _ data_size data_front_closes)))))

data_end_closes : (in_utf8 : Bool) → Closes plain (IsDataEnd in_utf8)
data_end_closes false a v is = crlf_closes a v is
data_end_closes true a v is = then_closes _ _ plain (octet_weaves 41 refl) (λ _. crlf_closes) a v is

append_closes : (utf8 : Bool) → Closes plain (IsAppend utf8)
append_closes utf8 a v is =
    let data_part = is.second in
    let ends : Ends None data_part.back = closed _ _ plain (data_end_closes is.value.announced.utf8) data_part.back v data_part.second in
    subst (λ z. Ends None z) (sym (is.whole ∙ ap (λ z. is.front ++ z) data_part.whole))
    (after_announced None is.front data_part.front data_part.back is.value.announced.size (append_front_closes utf8 is.front is.value is.first) data_part.first.0 ends)

fetch_closes : (utf8 by_uid : Bool) → Closes plain (IsFetch utf8 by_uid)
fetch_closes utf8 by_uid = then_closes _ _ plain space_weaves (λ _. then_closes _ _ plain set_weaves (λ set. then_closes _ _ plain (items_weave utf8) (λ items. bare_closes _)))

store_closes : (by_uid : Bool) → Closes plain (IsStore by_uid)
store_closes by_uid =
    then_closes _ _ plain space_weaves (λ _. then_closes _ _ plain set_weaves (λ set. then_closes _ _ plain (word_weaves storing_words refl) (λ storing. then_closes _ _ plain space_weaves (λ _. closed _ _ plain flags_close))))

not_here_closes : Closes plain IsNotHere
not_here_closes a v is = one_line None a is.0 tt

after_uid_closes : (utf8 : Bool) (n : UidName) → Closes plain (IsAfterUid utf8 n)
after_uid_closes utf8 uid.Fetch = fetch_closes utf8 true
after_uid_closes utf8 uid.Store = store_closes true
after_uid_closes utf8 uid.NotHere = not_here_closes

uid_closes : (utf8 : Bool) → Closes plain (IsUid utf8)
uid_closes utf8 = then_closes _ _ plain space_weaves (λ _. then_closes _ _ plain (word_weaves uid_names refl) (after_uid_closes utf8))

pub after_name_closes : (utf8 : Bool) (n : Name) → Closes plain (IsAfterName utf8 n)
after_name_closes utf8 name.Capability = bare_closes _
after_name_closes utf8 name.Noop = bare_closes _
after_name_closes utf8 name.Check = bare_closes _
after_name_closes utf8 name.Logout = bare_closes _
after_name_closes utf8 name.Login = login_closes utf8
after_name_closes utf8 name.Enable = enable_closes
after_name_closes utf8 name.Select = naming_closes utf8 _
after_name_closes utf8 name.Examine = naming_closes utf8 _
after_name_closes utf8 name.Create = naming_closes utf8 _
after_name_closes utf8 name.List = listing_closes utf8
after_name_closes utf8 name.Status = status_closes utf8
after_name_closes utf8 name.Append = append_closes utf8
after_name_closes utf8 name.Fetch = fetch_closes utf8 false
after_name_closes utf8 name.Store = store_closes false
after_name_closes utf8 name.Uid = uid_closes utf8
after_name_closes utf8 name.Expunge = bare_closes _
after_name_closes utf8 name.Close = bare_closes _
after_name_closes utf8 name.NotHere = not_here_closes

tag_weaves : Weaves IsTag
tag_weaves = flat_weaves _ tag_flat

-- A command ends a line, and this end stands in no literal.
pub command_ends : (utf8 : Bool) (octets : List ℕ) (c : Tagged) → IsCommand utf8 octets c → EndsCommandLine octets
command_ends utf8 octets c is = ends_line octets (closes octets c is)
  where
    closes : Closes plain (IsCommand utf8)
    closes = then_closes _ _ plain tag_weaves (λ tag. then_closes _ _ plain space_weaves (λ _. then_closes _ _ plain (word_weaves command_names refl) (λ n. closed _ _ plain (after_name_closes utf8 n))))

-- APPEND up to its data announces a literal of their size.
pub appending_announces : (utf8 : Bool) (octets : List ℕ) (a : Appends) → IsAppending utf8 octets a → Announces octets a.front.announced.size
appending_announces utf8 octets a is = ends_announces octets a.front.announced.size (closes octets a is)
  where
    sized : Appends → Option ℕ
    sized a = Some a.front.announced.size

    closes : Closes (λ (a : Appends). Some a.front.announced.size) (IsAppending utf8)
    closes =
        then_closes _ _ (λ (a : Appends). Some a.front.announced.size) tag_weaves (λ tag. then_closes _ _ (λ (a : Appends). Some a.front.announced.size) space_weaves (λ _.
        then_closes _ _ (λ (a : Appends). Some a.front.announced.size) (word_weaves append_words refl) (λ _. closed _ _ (λ (a : Appends). Some a.front.announced.size) (append_front_closes utf8))))
