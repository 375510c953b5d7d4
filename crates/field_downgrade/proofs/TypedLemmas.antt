-- A value is cut, trimmed and read in one way.
use Rattle.std.proofs.Common.{◌≡◌, ℕ, ◌==◌, ◌<◌, ◌≤◌, inl, inr, Bool, true, false, List, [], ◌∷◌, ◌++◌, length, map, take, drop, Some, None, position, codes, refl, sym, ap, ◌∙◌, subst, arith}
use Rattle.std.proofs.lemmas.Bool.{and_parts, and_from, both_ways, cases_lt}
use Rattle.std.proofs.lemmas.Bool.Decides.{nat_tests}
use Rattle.std.proofs.lemmas.List.{take_all}
use Rattle.std.proofs.lemmas.List.Folds.{list_all-append}
use Rattle.std.proofs.lemmas.Slice.Eq.{bytes_eq-Decides}
use Rattle.std.proofs.lemmas.Str.Ascii.{lowercase_is}
use Rattle.std.specs.Char.{to_ascii_lowercase}
use Rattle.std.specs.List.{list_all}
use Rattle.std.specs.Str.{bytes_eq, str_to_ascii_lowercase}
use Rattle.mail_wire.specs.Octets.{is_white, same_name}
use Rattle.mail_wire.specs.Spans.{Stops, IsTrimmed}
use Rattle.mail_wire.proofs.SpanLemmas.{Opposite, span_once, IsSpan-found, IsSpan-whole}
use Rattle.utf8_fields.proofs.OneValue.{IsTrimmed-once}
use Rattle.encoded_words.specs.Folding.{lines_of, AddsLines}
use Rattle.encoded_words.proofs.LineLemmas.{adds_these}
use Rattle.encapsulated_fields.specs.AddressForms.{xtext_form}
use Rattle.encapsulated_fields.specs.Xtext.{ReadsAs}
use Rattle.encapsulated_fields.proofs.XtextLemmas.{ReadsAs-once}
use Rattle.field_downgrade.specs.Typed.{is_no_semicolon, is_type_octet, utf8_type, CutsType, WritesType, IsTyped, WrittenSays, SaysTyped, TypedPieces}

-- ---- the first `;`

pub cuts_once : (value front following front' behind' : List ℕ) → CutsType value front following → CutsType value front' behind' → (front ≡ front') × (following ≡ behind')
cuts_once value front following front' behind' p q =
    let once = span_once is_no_semicolon front front' (59 ∷ following) (59 ∷ behind') p.first q.first refl refl (sym p.whole ∙ q.whole) in
    let rest : 59 ∷ following ≡ 59 ∷ behind' = once.1 in
    (once.0, cc rest)

pub no_cut : (value front following : List ℕ) → list_all is_no_semicolon value ≡ true → CutsType value front following → ⊥
no_cut value front following none cuts =
    let all : list_all is_no_semicolon (front ++ 59 ∷ following) ≡ true = subst (λ v. list_all is_no_semicolon v ≡ true) cuts.whole none in
    let rest = (and_parts (list_all is_no_semicolon front) (list_all is_no_semicolon (59 ∷ following)) (sym (list_all-append is_no_semicolon front (59 ∷ following)) ∙ all)).1 in
    both_ways (is_no_semicolon 59) refl (and_parts (is_no_semicolon 59) (list_all is_no_semicolon following) rest).0

semicolon_opposite : Opposite is_no_semicolon (λ x. x == 59)
semicolon_opposite x = refl

pub is_semicolon : (x : ℕ) → is_no_semicolon x ≡ false → x ≡ 59
is_semicolon x h = grind (arith, nat_tests)

pub cuts_found : (value front rest following : List ℕ) (x at : ℕ) → position (λ y. y == 59) value ≡ Some at → front ≡ take at value → rest ≡ drop at value → rest ≡ x ∷ following
    → CutsType value front following
cuts_found value front rest following x at e front_is rest_is begins =
    let span = (IsSpan-found is_no_semicolon (λ y. y == 59) value at semicolon_opposite e).1 in
    let same : drop at value ≡ x ∷ following = sym rest_is ∙ begins in
    let stops : Stops is_no_semicolon (x ∷ following) = subst (Stops is_no_semicolon) same span.stops in
    record {
      whole = span.whole ∙ rw (front_is, same) (ap (λ y. take at value ++ y ∷ following) (is_semicolon x stops));
      first = rw (front_is) span.passes;
    }

pub cuts_none : (value : List ℕ) → position (λ y. y == 59) value ≡ None → list_all is_no_semicolon value ≡ true
cuts_none value e =
    let span = IsSpan-whole is_no_semicolon (λ y. y == 59) value semicolon_opposite e in
    subst (λ v. list_all is_no_semicolon v ≡ true) (take_all (length value) value (omega arith)) span.passes

-- ---- the type

-- a type's octet in any case
letter : (x : ℕ) → 65 ≤ x → x ≤ 90 → is_type_octet x ≡ true
letter x least most = grind (arith, nat_tests)

any_case : (x : ℕ) → is_type_octet (to_ascii_lowercase x) ≡ true → is_type_octet x ≡ true
any_case x h = elim (cases_lt x 65) [
  | inl below ↦ subst (λ y. is_type_octet y ≡ true) ((lowercase_is x).1 below) h
  | inr least ↦ elim (cases_lt 90 x) [
    | inl above ↦ subst (λ y. is_type_octet y ≡ true) ((lowercase_is x).2 above) h
    | inr most ↦ letter x least most
  ]
]

type_octets : (xs : List ℕ) → list_all is_type_octet (map to_ascii_lowercase xs) ≡ true → list_all is_type_octet xs ≡ true
type_octets [] h = refl
type_octets (x ∷ xs) h =
    let parts = and_parts (is_type_octet (to_ascii_lowercase x)) (list_all is_type_octet (map to_ascii_lowercase xs)) h in
    and_from (is_type_octet x) (list_all is_type_octet xs) (any_case x parts.0) (type_octets xs parts.1)

some_octets : (xs : List ℕ) → map to_ascii_lowercase xs ≡ utf8_type → 0 < length xs
some_octets [] e = cc e
some_octets (x ∷ xs) e = omega arith

writes_utf8 : (front atom : List ℕ) → IsTrimmed is_white front atom → str_to_ascii_lowercase atom ≡ utf8_type → WritesType front utf8_type
writes_utf8 front atom is e = record {
  atom = atom;
  atom_is = is;
  some = some_octets atom e;
  are = type_octets atom (subst (λ xs. list_all is_type_octet xs ≡ true) (sym e) refl);
  lower = sym e;
}

WritesType-once : (octets type other : List ℕ) → WritesType octets type → WritesType octets other → type ≡ other
WritesType-once octets type other p q =
    p.lower ∙ ap str_to_ascii_lowercase (IsTrimmed-once is_white octets p.atom q.atom p.atom_is q.atom_is) ∙ sym q.lower

pub IsTyped-utf8 : (value front following atom written : List ℕ) → CutsType value front following → IsTrimmed is_white front atom → same_name atom utf8_type ≡ true → IsTrimmed is_white following written
    → IsTyped value utf8_type written
unfolding same_name
IsTyped-utf8 value front following atom written cuts atom_is same written_is =
    record { front = front; following = following; cuts = cuts; type_is = writes_utf8 front atom atom_is ((bytes_eq-Decides (str_to_ascii_lowercase atom) utf8_type).0 same); written_is = written_is }

pub not-IsTyped-utf8 : (value front following atom : List ℕ) → CutsType value front following → IsTrimmed is_white front atom → same_name atom utf8_type ≡ false
    → (written : List ℕ) → IsTyped value utf8_type written → ⊥
unfolding same_name
not-IsTyped-utf8 value front following atom cuts atom_is other written is =
    let once = cuts_once value front following is.front is.following cuts is.cuts in
    let same_atom : atom ≡ is.type_is.atom = IsTrimmed-once is_white front atom is.type_is.atom atom_is (rw (once.0) is.type_is.atom_is) in
    let lower : str_to_ascii_lowercase atom ≡ utf8_type = ap str_to_ascii_lowercase same_atom ∙ sym is.type_is.lower in
    both_ways (bytes_eq (str_to_ascii_lowercase atom) utf8_type) other ((bytes_eq-Decides (str_to_ascii_lowercase atom) utf8_type).1 lower)

pub not-IsTyped-cut : (value : List ℕ) → list_all is_no_semicolon value ≡ true → (type written : List ℕ) → IsTyped value type written → ⊥
not-IsTyped-cut value none type written is = no_cut value is.front is.following none is.cuts

-- ---- one meaning

pub IsTyped-once : (value type other written other_written : List ℕ) → IsTyped value type written → IsTyped value other other_written → (type ≡ other) × (written ≡ other_written)
IsTyped-once value type other written other_written p q =
    let once = cuts_once value p.front p.following q.front q.following p.cuts q.cuts in (
      WritesType-once p.front type other p.type_is (rw (once.0) q.type_is),
      IsTrimmed-once is_white p.following written other_written p.written_is (rw (once.1) q.written_is),
    )

WrittenSays-once : (b : Bool) (written text other : List ℕ) → WrittenSays b written text → WrittenSays b written other → text ≡ other
WrittenSays-once true written text other p q = ReadsAs-once written text other p q
WrittenSays-once false written text other p q = p ∙ sym q

pub SaysTyped-once : (value type other text other_text : List ℕ) → SaysTyped value type text → SaysTyped value other other_text → (type ≡ other) × (text ≡ other_text)
SaysTyped-once value type other text other_text p q =
    let once = IsTyped-once value type other p.written q.written p.is_typed q.is_typed in
    let says : WrittenSays (bytes_eq type utf8_type) p.written other_text = rw (once.0, once.1) q.says in
    (once.0, WrittenSays-once (bytes_eq type utf8_type) p.written text other_text p.says says)

pub TypedPieces-once : (value : List ℕ) (pieces other : List (List ℕ)) → TypedPieces value pieces → TypedPieces value other → pieces ≡ other
TypedPieces-once value pieces other p q =
    let once = (SaysTyped-once value utf8_type utf8_type p.text q.text p.says q.says).1 in
    p.pieces_are ∙ rw (once) (sym q.pieces_are)

-- ---- what the code reads

pub not-TypedPieces-type : (value : List ℕ) → ((written : List ℕ) → IsTyped value utf8_type written → ⊥) → (pieces : List (List ℕ)) → TypedPieces value pieces → ⊥
not-TypedPieces-type value none pieces p = none p.says.written p.says.is_typed

pub not-TypedPieces-read : (value written : List ℕ) → IsTyped value utf8_type written → ((text : List ℕ) → ReadsAs written text → ⊥) → (pieces : List (List ℕ)) → TypedPieces value pieces → ⊥
not-TypedPieces-read value written is none pieces p =
    let same : written ≡ p.says.written = (IsTyped-once value utf8_type utf8_type written p.says.written is p.says.is_typed).1 in
    none p.text (rw (same) p.says.says)

pub typed_written : (value written address old new : List ℕ) → IsTyped value utf8_type written → ReadsAs written address → new ≡ old ++ lines_of ((codes "utf-8; " ++ xtext_form address) ∷ []) → AddsLines (TypedPieces value) old new
typed_written value written address old new typed reads new_is =
    adds_these ((codes "utf-8; " ++ xtext_form address) ∷ []) (record { text = address; says = record { written = written; is_typed = typed; says = reads }; pieces_are = refl }) new_is
