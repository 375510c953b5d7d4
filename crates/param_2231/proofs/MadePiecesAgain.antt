-- The pieces that are made for a parameter are read as that parameter.
use Rattle.std.proofs.Common.{◌≡◌, ℕ, zero, suc, ◌+◌, ◌<◌, ◌≤◌, ◌==◌, Bool, true, false, ◌||◌, inl, inr, List, [], ◌∷◌, ◌++◌, length, take, get_or, map, codes, Some, None, is_some, refl, sym, ap, ◌∙◌, subst, arith}
use Rattle.std.proofs.lemmas.Bool.{cases_Bool, true≢false, and_parts, and_from, cond-true, cond-false}
use Rattle.std.proofs.lemmas.Bool.Decides.{nat_tests, Decides-eqb}
use Rattle.std.proofs.lemmas.Slice.Eq.{bytes_eq-Decides}
use Rattle.std.proofs.lemmas.List.{append_assoc, append-nil, length-append}
use Rattle.std.proofs.lemmas.Grind.{flat_map-append}
use Rattle.std.proofs.lemmas.List.Folds.{list_all-append}
use Rattle.std.specs.List.{AllByRecursion, flat_map, list_all, concat}
use Rattle.std.specs.Str.{bytes_eq, str_to_ascii_lowercase}
use Rattle.mail_wire.specs.Octets.{is_ascii}
use Rattle.mail_wire.proofs.AllLemmas.{pass-append, pass-weaker}
use Rattle.encoded_words.specs.Words.{UnitValue}
use Rattle.encoded_words.specs.private.Parts.{lacks}
use Rattle.field_tokens.specs.declared.Style.TheVariants.{Mime}
use Rattle.field_tokens.specs.declared.TokenKind.TheVariants.{Atom, Special}
use Rattle.field_tokens.specs.TokenOctets.{is_atom_octet, is_line_octet}
use Rattle.field_tokens.specs.Tokens.{IsToken, TokenValue}
use Rattle.field_tokens.specs.Squeezed.{octets_of}
use Rattle.param_grammar.specs.declared.Piece.{Piece}
use Rattle.param_grammar.specs.Escapes.{escaped}
use Rattle.param_grammar.specs.Extended.{unit_of}
use Rattle.param_grammar.specs.Names.{NameParts, HasNameParts, IsBase, IsNumber}
use Rattle.param_grammar.specs.Bodies.{is_first, SaysOctets}
use Rattle.param_grammar.specs.Joining.{decimal_value, has_number, numbered, first_parts}
use Rattle.param_2231.specs.Layout.{number_digits, charset_of, octets_in, charset_part, AreSectionTexts, is_short, whole_piece, numbered_piece, numbered_pieces, ParamPieces}
use Rattle.param_2231.specs.Layout.ParamPieces.{Whole, Parts}
use Rattle.param_grammar.proofs.EscapeLemmas.{IsEscaped-escaped}
use Rattle.param_2231.proofs.CoresAgain.{is_octet, CanStand, HasCore}
use Rattle.param_2231.proofs.PlacedAgain.{free_of, atom_free}
use Rattle.param_2231.proofs.NumbersAgain.{number_back, number_digits_are}
use Rattle.param_2231.proofs.WordsAgain.{is_word_octet, word_octet-atom, word_octet-ascii, atom_octet-line, ascii-octet, escaped-words, escaped-some, names-words, digits-words, CanBeWritten, octets-below}
use Rattle.param_2231.proofs.JoinedAgain.{IsSeries}

-- ---- one piece

record IsWord (xs : List ℕ) : Type 0 where
  some : 0 < length xs
  words : list_all is_word_octet xs ≡ true

abbrev atom : List ℕ → TokenValue
atom octets = record { kind = Atom; octets = octets }

abbrev equals : TokenValue
equals = record { kind = Special; octets = 61 ∷ [] }

abbrev core : List ℕ → List ℕ → List TokenValue
core name value = atom name ∷ equals ∷ atom value ∷ []

abbrev spelled : List ℕ → List ℕ → List ℕ
spelled name value = name ++ 61 ∷ value

core_spelled : (name value : List ℕ) → octets_of (core name value) ≡ spelled name value
core_spelled name value = ap (λ r. name ++ 61 ∷ r) (append-nil value)

word_atoms : (xs : List ℕ) → list_all is_word_octet xs ≡ true → list_all (is_atom_octet Mime) xs ≡ true
word_atoms xs h = pass-weaker is_word_octet (is_atom_octet Mime) word_octet-atom xs h

word_ascii : (xs : List ℕ) → list_all is_word_octet xs ≡ true → list_all is_ascii xs ≡ true
word_ascii xs h = pass-weaker is_word_octet is_ascii word_octet-ascii xs h

word_line : (xs : List ℕ) → list_all is_word_octet xs ≡ true → list_all is_line_octet xs ≡ true
word_line xs h = pass-weaker (is_atom_octet Mime) is_line_octet atom_octet-line xs (word_atoms xs h)

word_octets : (xs : List ℕ) → list_all is_word_octet xs ≡ true → list_all is_octet xs ≡ true
word_octets xs h = pass-weaker is_ascii is_octet ascii-octet xs (word_ascii xs h)

around : (p : ℕ → Bool) (name value : List ℕ) → p 61 ≡ true → list_all p name ≡ true → list_all p value ≡ true → list_all p (spelled name value) ≡ true
around p name value mark n v = pass-append p name (61 ∷ value) n (and_from (p 61) (list_all p value) mark v)

core_stands : (name value : List ℕ) → IsWord name → IsWord value → CanStand (core name value)
core_stands name value n v =
    let end : List ℕ = value ++ [] in
    let name_is : IsToken Mime Atom name (61 ∷ end) = (n.some, record { whole = refl; passes = word_atoms name n.words; stops = refl }) in
    let value_is : IsToken Mime Atom value [] = (v.some, record { whole = refl; passes = word_atoms value v.words; stops = tt }) in
    record {
      are_tokens = (61 ∷ end, refl, name_is, (end, refl, (61, refl, refl), ([], refl, value_is, refl)));
      kept = (refl, (refl, (refl, tt)));
      no_semicolon = (free_of (atom name) (atom_free Atom name (61 ∷ end) refl name_is), (refl, (free_of (atom value) (atom_free Atom value [] refl value_is), tt)));
      line = ap (list_all is_line_octet) (core_spelled name value) ∙ around is_line_octet name value refl (word_line name n.words) (word_line value v.words);
      octets = ap (list_all is_octet) (core_spelled name value) ∙ around is_octet name value refl (word_octets name n.words) (word_octets value v.words);
      some = omega arith;
    }

-- a made piece can stand in a text, and is ASCII
pub record IsMade (piece : Piece) : Type 0 where
  pub has_core : HasCore piece
  pub ascii : list_all is_ascii piece.written ≡ true

made_piece : (name value : List ℕ) (parts : NameParts) (piece : Piece) → IsWord name → IsWord value → HasNameParts name parts
    → SaysOctets parts.is_extended (is_first parts.number) value piece.charset piece.octets → piece.base ≡ str_to_ascii_lowercase parts.base → piece.number ≡ parts.number
    → piece.written ≡ spelled name value → IsMade piece
made_piece name value parts piece n v has says base number written = record {
  has_core = record {
    core = core name value;
    is_core = record {
      atom = atom name;
      equals = equals;
      value = atom value ∷ [];
      core_is = refl;
      is_name = refl;
      is_equals = refl;
      is_value = refl;
      parts = parts;
      has_parts = has;
      says = subst (λ c. SaysOctets parts.is_extended (is_first parts.number) c piece.charset piece.octets) (sym (append-nil value)) says;
      base_is = base;
      number_is = number;
      written_is = written ∙ sym (core_spelled name value);
    };
    stands = core_stands name value n v;
  };
  ascii = ap (list_all is_ascii) written ∙ around is_ascii name value refl (word_ascii name n.words) (word_ascii value v.words);
}

-- ---- names and values

-- a name in lower case that a piece can have
pub record IsName (name : List ℕ) : Type 0 where
  pub base : IsBase name
  pub first : lacks 42 name ≡ true
  pub words : list_all is_word_octet name ≡ true
  pub lower : str_to_ascii_lowercase name ≡ name

abbrev charset_said : UnitValue → List ℕ → List ℕ
charset_said unit octets = charset_part unit ++ escaped octets

charset_word : (unit : UnitValue) (octets : List ℕ) → CanBeWritten unit → IsWord (charset_said unit octets)
charset_word unit octets can = record {
  some = omega (arith, length-append (charset_part unit) (escaped octets), length-append (charset_of unit) (codes "''"));
  words = pass-append is_word_octet (charset_part unit) (escaped octets) (pass-append is_word_octet (charset_of unit) (codes "''") (names-words (charset_of unit) can.names) refl) (escaped-words octets);
}

charset_extended : (unit : UnitValue) (octets : List ℕ) → CanBeWritten unit → list_all is_octet octets ≡ true → SaysOctets true true (charset_said unit octets) (charset_of unit) octets
charset_extended unit octets can bytes = (
  escaped octets,
  record {
    language = [];
    spelled = append_assoc (charset_of unit) (codes "''") (escaped octets);
    charset_first = can.first;
    language_first = refl;
    charset_is = can.names;
  },
  IsEscaped-escaped octets (octets-below octets bytes),
)

whole_spelled : (name charset said : List ℕ) → name ++ codes "*=" ++ charset ++ said ≡ spelled (name ++ 42 ∷ []) (charset ++ said)
whole_spelled name charset said =
    append_assoc (name ++ codes "*=") charset said ∙ append_assoc name (codes "*=") (charset ++ said) ∙ sym (append_assoc name (42 ∷ []) (61 ∷ (charset ++ said)))

part_spelled : (name digits said : List ℕ) → name ++ codes "*" ++ digits ++ codes "*=" ++ said ≡ spelled (name ++ ((42 ∷ digits) ++ 42 ∷ [])) said
part_spelled name digits said =
    append_assoc (name ++ codes "*" ++ digits) (codes "*=") said ∙ append_assoc (name ++ codes "*") digits (42 ∷ 61 ∷ said) ∙ append_assoc name (codes "*") (digits ++ 42 ∷ 61 ∷ said)
    ∙ ap (λ r. name ++ 42 ∷ r) (sym (append_assoc digits (42 ∷ []) (61 ∷ said))) ∙ sym (append_assoc name ((42 ∷ digits) ++ 42 ∷ []) (61 ∷ said))

-- ---- a whole parameter

abbrev whole : List ℕ → UnitValue → Piece
whole name unit = record { base = name; number = None; charset = charset_of unit; octets = octets_in unit; written = whole_piece name unit }

whole_made : (name : List ℕ) (unit : UnitValue) → IsName name → CanBeWritten unit → IsMade (whole name unit)
whole_made name unit is can =
    let parts : NameParts = record { base = name; number = None; is_extended = true } in
    made_piece (name ++ 42 ∷ []) (charset_said unit (octets_in unit)) parts (whole name unit)
    (record { some = omega (arith, length-append name (42 ∷ [])); words = pass-append is_word_octet name (42 ∷ []) is.words refl }) (charset_word unit (octets_in unit) can)
    (record { spelled = refl; base = is.base; first = is.first; number = tt }) (charset_extended unit (octets_in unit) can can.octets) (sym is.lower) refl
    (whole_spelled name (charset_part unit) (escaped (octets_in unit)))

-- ---- parts

abbrev charset_at : UnitValue → ℕ → List ℕ
charset_at unit zero = charset_of unit
charset_at unit (suc n) = []

abbrev said_at : UnitValue → ℕ → List ℕ → List ℕ
said_at unit zero part = charset_said unit part
said_at unit (suc n) part = escaped part

abbrev part_piece : List ℕ → UnitValue → ℕ → List ℕ → Piece
part_piece name unit n part =
    record { base = name; number = Some (number_digits n); charset = charset_at unit n; octets = part; written = numbered_piece name n (said_at unit n part) }

not_first : (n : ℕ) → is_first (Some (number_digits (suc n))) ≡ false
not_first n = elim (cases_Bool (bytes_eq (number_digits (suc n)) (codes "0"))) [
  | inl t ↦
      let zero_is : number_digits (suc n) ≡ codes "0" = (bytes_eq-Decides (number_digits (suc n)) (codes "0")).0 t in
      let same : suc n ≡ 0 = sym (number_back (suc n)) ∙ ap decimal_value zero_is in
      absurd (omega (arith, same))
  | inr f ↦ f
]

part_word : (unit : UnitValue) (n : ℕ) (part : List ℕ) → CanBeWritten unit → 0 < length part → IsWord (said_at unit n part)
part_word unit zero part can some = charset_word unit part can
part_word unit (suc n) part can some = record { some = escaped-some part some; words = escaped-words part }

part_says : (unit : UnitValue) (n : ℕ) (part : List ℕ) → CanBeWritten unit → list_all is_octet part ≡ true
    → SaysOctets true (is_first (Some (number_digits n))) (said_at unit n part) (charset_at unit n) part
part_says unit zero part can bytes = charset_extended unit part can bytes
part_says unit (suc n) part can bytes = subst (λ f. SaysOctets true f (escaped part) [] part) (sym (not_first n)) (refl, IsEscaped-escaped part (octets-below part bytes))

part_made : (name : List ℕ) (unit : UnitValue) (n : ℕ) (part : List ℕ) → IsName name → CanBeWritten unit → 0 < length part → list_all is_octet part ≡ true → IsMade (part_piece name unit n part)
part_made name unit n part is can some bytes =
    let number : IsNumber (number_digits n) = number_digits_are n in
    let parts : NameParts = record { base = name; number = Some (number_digits n); is_extended = true } in
    let suffix : List ℕ = (42 ∷ number_digits n) ++ 42 ∷ [] in
    let words : list_all is_word_octet suffix ≡ true = pass-append is_word_octet (42 ∷ number_digits n) (42 ∷ []) (digits-words (number_digits n) number.decimal) refl in
    made_piece (name ++ suffix) (said_at unit n part) parts (part_piece name unit n part)
    (record { some = omega (arith, length-append name suffix); words = pass-append is_word_octet name suffix is.words words }) (part_word unit n part can some)
    (record { spelled = refl; base = is.base; first = is.first; number = number }) (part_says unit n part can bytes) (sym is.lower) refl
    (part_spelled name (number_digits n) (said_at unit n part))

-- ---- a series

abbrev part_pieces : List ℕ → UnitValue → ℕ → List (List ℕ) → List Piece
part_pieces name unit n [] = []
part_pieces name unit n (part ∷ parts) = part_piece name unit n part ∷ part_pieces name unit (suc n) parts

abbrev pub written_all : List Piece → List (List ℕ)
written_all pieces = map (λ (p : Piece). p.written) pieces

parts_written : (name : List ℕ) (unit : UnitValue) (n : ℕ) (parts : List (List ℕ)) → written_all (part_pieces name unit (suc n) parts) ≡ numbered_pieces name (suc n) parts
parts_written name unit n [] = refl
parts_written name unit n (part ∷ parts) = ap (λ r. numbered_piece name (suc n) (escaped part) ∷ r) (parts_written name unit (suc n) parts)

length_parts : (name : List ℕ) (unit : UnitValue) (n : ℕ) (parts : List (List ℕ)) → length (part_pieces name unit n parts) ≡ length parts
length_parts name unit n [] = refl
length_parts name unit n (part ∷ parts) = ap suc (length_parts name unit (suc n) parts)

parts_named_so : (name : List ℕ) (unit : UnitValue) (n : ℕ) (parts : List (List ℕ)) → AllByRecursion (λ (m : Piece). (m.base ≡ name) × (is_some m.number ≡ true)) (part_pieces name unit n parts)
parts_named_so name unit n [] = tt
parts_named_so name unit n (part ∷ parts) = ((refl, refl), parts_named_so name unit (suc n) parts)

has_at : (n k : ℕ) (name : List ℕ) (unit : UnitValue) (part : List ℕ) → has_number n (part_piece name unit k part) ≡ (k == n)
has_at n k name unit part = ap (λ v. v == n) (number_back k)

pub apart : (k n : ℕ) → n < k → (k == n) ≡ false
apart k n h = grind (arith, nat_tests)

apart_more : (k n : ℕ) → k < n → (k == n) ≡ false
apart_more k n h = grind (arith, nat_tests)

numbered_below : (n k : ℕ) (name : List ℕ) (unit : UnitValue) (parts : List (List ℕ)) → n < k → numbered n (part_pieces name unit k parts) ≡ []
numbered_below n k name unit [] l = refl
numbered_below n k name unit (part ∷ parts) l =
    cond-false _ _ _ (has_at n k name unit part ∙ apart k n l) ∙ numbered_below n (suc k) name unit parts (omega (arith, l))

numbered_at : (n k i : ℕ) (name : List ℕ) (unit : UnitValue) (parts : List (List ℕ)) → n ≡ k + i → i < length parts
    → numbered n (part_pieces name unit k parts) ≡ part_piece name unit n (get_or parts i []) ∷ []
numbered_at n k i name unit [] e l = absurd (omega (arith, l))
numbered_at n k zero name unit (part ∷ parts) e l =
    let same : k ≡ n = omega (arith, e) in
    cond-true _ _ _ (has_at n k name unit part ∙ (Decides-eqb k n).1 same)
    ∙ ap (λ r. part_piece name unit k part ∷ r) (numbered_below n (suc k) name unit parts (omega (arith, e))) ∙ ap (λ m. part_piece name unit m part ∷ []) same
numbered_at n k (suc i) name unit (part ∷ parts) e l =
    cond-false _ _ _ (has_at n k name unit part ∙ apart_more k n (omega (arith, e)))
    ∙ numbered_at n (suc k) i name unit parts (omega (arith, e)) (omega (arith, l))

concat_take : (parts : List (List ℕ)) (n : ℕ) → n < length parts → concat (take (suc n) parts) ≡ concat (take n parts) ++ get_or parts n []
concat_take [] n l = absurd (omega (arith, l))
concat_take (part ∷ parts) zero l = append-nil part
concat_take (part ∷ parts) (suc n) l = ap (λ r. part ++ r) (concat_take parts n (omega (arith, l))) ∙ sym (append_assoc part (concat (take n parts)) (get_or parts n []))

first_octets : (name : List ℕ) (unit : UnitValue) (parts : List (List ℕ)) (n : ℕ) → n ≤ length parts
    → flat_map (λ (p : Piece). p.octets) (first_parts n (part_pieces name unit 0 parts)) ≡ concat (take n parts)
first_octets name unit parts zero l = refl
first_octets name unit parts (suc n) l =
    let made : List Piece = part_pieces name unit 0 parts in
    let one = numbered_at n 0 n name unit parts (omega arith) (omega (arith, l)) in
    flat_map-append (λ (p : Piece). p.octets) (first_parts n made) (numbered n made)
    ∙ ap (λ r. r ++ flat_map (λ (p : Piece). p.octets) (numbered n made)) (first_octets name unit parts n (omega (arith, l)))
    ∙ ap (λ r. concat (take n parts) ++ flat_map (λ (p : Piece). p.octets) r) one ∙ ap (λ r. concat (take n parts) ++ r) (append-nil (get_or parts n []))
    ∙ sym (concat_take parts n (omega (arith, l)))

take_whole : (parts : List (List ℕ)) → take (length parts) parts ≡ parts
take_whole [] = refl
take_whole (part ∷ parts) = ap (λ r. part ∷ r) (take_whole parts)

pub series_made : (name : List ℕ) (unit : UnitValue) (first : List ℕ) (parts : List (List ℕ)) → CanBeWritten unit → octets_in unit ≡ concat (first ∷ parts)
    → IsSeries name unit (part_pieces name unit 0 (first ∷ parts))
series_made name unit first parts can e =
    let all : List (List ℕ) = first ∷ parts in
    let made : List Piece = part_pieces name unit 0 all in
    let size : length made ≡ length all = length_parts name unit 0 all in
    let one : numbered 0 made ≡ part_piece name unit 0 first ∷ [] = numbered_at 0 0 0 name unit all refl (omega arith) in
    let charset : flat_map (λ (p : Piece). p.charset) (numbered 0 made) ≡ charset_of unit = ap (flat_map (λ (p : Piece). p.charset)) one ∙ append-nil (charset_of unit) in
    let octets : flat_map (λ (p : Piece). p.octets) (first_parts (length made) made) ≡ octets_in unit =
    ap (λ n. flat_map (λ (p : Piece). p.octets) (first_parts n made)) size ∙ first_octets name unit all (length all) (omega arith) ∙ ap concat (take_whole all) ∙ sym e in
    record {
      first = part_piece name unit 0 first;
      others = part_pieces name unit 1 parts;
      made_are = refl;
      parts = parts_named_so name unit 0 all;
      are_numbered = λ n l. (part_piece name unit n (get_or all n []), numbered_at n 0 n name unit all (omega arith) (omega (arith, l, size)));
      joined = ap (λ c. unit_of c (flat_map (λ (p : Piece). p.octets) (first_parts (length made) made))) charset ∙ ap (unit_of (charset_of unit)) octets ∙ can.again;
    }

parts_made : (name : List ℕ) (unit : UnitValue) (n : ℕ) (parts : List (List ℕ)) → IsName name → CanBeWritten unit → AreSectionTexts unit parts → list_all is_octet (concat parts) ≡ true
    → AllByRecursion IsMade (part_pieces name unit n parts)
parts_made name unit n [] is can are bytes = tt
parts_made name unit n (part ∷ parts) is can are bytes =
    let both = and_parts (list_all is_octet part) (list_all is_octet (concat parts)) (sym (list_all-append is_octet part (concat parts)) ∙ bytes) in
    (part_made name unit n part is can are.0.some both.0, parts_made name unit (suc n) parts is can are.1 both.1)

-- what a parameter gives: a whole one, or a series
pub data GivesMade (doubled : Bool) (name : List ℕ) (unit : UnitValue) (made : List Piece) : Type 0 where
  OneMade : (m : Piece) → m.number ≡ None → m.base ≡ name → unit_of m.charset m.octets ≡ unit → made ≡ m ∷ [] → GivesMade doubled name unit made
  SeriesMade : doubled ≡ false → IsSeries name unit made → GivesMade doubled name unit made

pub record AreGiven (doubled : Bool) (name : List ℕ) (unit : UnitValue) (pieces : List (List ℕ)) : Type 0 where
  pub made : List Piece
  pub gives : GivesMade doubled name unit made
  pub written : pieces ≡ written_all made
  pub are_made : AllByRecursion IsMade made

not_doubled : (a b : Bool) → (a || b) ≡ false → a ≡ false
not_doubled true b h = absurd (true≢false h)
not_doubled false b h = refl

pub param_given : (doubled : Bool) (name : List ℕ) (unit : UnitValue) (pieces : List (List ℕ)) → IsName name → CanBeWritten unit → ParamPieces doubled name unit pieces
    → AreGiven doubled name unit pieces
param_given doubled name unit pieces is can (Whole short e) = record {
  made = whole name unit ∷ [];
  gives = OneMade (whole name unit) refl refl can.again refl;
  written = e;
  are_made = (whole_made name unit is can, tt);
}
param_given doubled name unit pieces is can (Parts first parts long are octets e) =
    let written : pieces ≡ written_all (part_pieces name unit 0 (first ∷ parts)) = e ∙ ap (λ r. numbered_piece name 0 (charset_part unit ++ escaped first) ∷ r) (sym (parts_written name unit 0 parts)) in
    record {
      made = part_pieces name unit 0 (first ∷ parts);
      gives = SeriesMade (not_doubled doubled (is_short unit) long) (series_made name unit first parts can octets);
      written = written;
      are_made = parts_made name unit 0 (first ∷ parts) is can are (sym (ap (list_all is_octet) octets) ∙ can.octets);
    }
