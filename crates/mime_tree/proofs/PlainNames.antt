-- A text that is the name of an encoding alone, and fields that don't begin with a name.
use Rattle.std.proofs.Common.{◌≡◌, ◌≢◌, ℕ, suc, ◌<◌, Bool, true, false, inl, inr, List, [], ◌∷◌, length, take, refl, sym, ap, ◌∙◌, arith, append-nil}
use Rattle.std.proofs.lemmas.Bool.{and_parts, and_from, or_cases, both_ways, cases_Bool}
use Rattle.std.proofs.lemmas.Bool.Decides.{nat_tests}
use Rattle.std.proofs.lemmas.List.{length-append}
use Rattle.std.proofs.lemmas.Slice.Eq.{bytes_eq-Decides}
use Rattle.std.proofs.Math.Seq.{take-append_seam}
use Rattle.std.specs.Prelude.{codes, nat_le, ◌&&◌, ◌||◌}
use Rattle.std.specs.Char.{to_ascii_lowercase}
use Rattle.std.specs.Str.{str_to_ascii_lowercase}
use Rattle.std.specs.List.{list_all}
use Rattle.mail_wire.specs.Octets.{is_ascii, same_name}
use Rattle.mail_wire.proofs.AllLemmas.{pass-weaker}
use Rattle.field_tokens.specs.declared.Style.TheVariants.{Mime}
use Rattle.field_tokens.specs.declared.TokenKind.TheVariants.{Atom}
use Rattle.field_tokens.specs.TokenOctets.{is_atom_octet, is_line_octet}
use Rattle.field_tokens.specs.Tokens.{TokenValue}
use Rattle.field_tokens.proofs.TokenLines.{ascii_line}
use Rattle.mime_tree.specs.Openings.{is_identity_name, KeepsOctets}
use Rattle.mime_tree.specs.private.Types.{IsNotNamed}

-- a letter or digit
abbrev is_plain : ℕ → Bool
is_plain x = (nat_le 48 x && nat_le x 57) || ((nat_le 65 x && nat_le x 90) || (nat_le 97 x && nat_le x 122))

plain_upper : (x : ℕ) → is_plain (to_ascii_lowercase x) ≡ true → is_plain x ≡ true
plain_upper x h = grind (arith, nat_tests)

plain_ascii : (x : ℕ) → is_plain x ≡ true → is_ascii x ≡ true
plain_ascii x h = grind (arith, nat_tests)

plain_line : (x : ℕ) → is_plain x ≡ true → is_line_octet x ≡ true
plain_line x h = grind (arith, nat_tests)

plain_atom : (x : ℕ) → is_plain x ≡ true → is_atom_octet Mime x ≡ true
plain_atom x h = grind (arith, nat_tests)

plain_lower : (text : List ℕ) → list_all is_plain (str_to_ascii_lowercase text) ≡ true → list_all is_plain text ≡ true
plain_lower [] h = refl
plain_lower (x ∷ text) h =
    let parts = and_parts (is_plain (to_ascii_lowercase x)) (list_all is_plain (str_to_ascii_lowercase text)) h in
    and_from (is_plain x) (list_all is_plain text) (plain_upper x parts.0) (plain_lower text parts.1)

-- the same, whatever the case
same_lower : (text name : List ℕ) → same_name text name ≡ true → str_to_ascii_lowercase text ≡ str_to_ascii_lowercase name
unfolding same_name
same_lower text name e = (bytes_eq-Decides (str_to_ascii_lowercase text) (str_to_ascii_lowercase name)).0 e

length-lower : (text : List ℕ) → length (str_to_ascii_lowercase text) ≡ length text
length-lower [] = refl
length-lower (x ∷ text) = ap (λ n. suc n) (length-lower text)

same_length : (text name : List ℕ) → same_name text name ≡ true → length text ≡ length name
same_length text name e = sym (length-lower text) ∙ ap length (same_lower text name e) ∙ length-lower name

-- names of two lengths
pub other_length : (text name : List ℕ) → length text ≢ length name → same_name text name ≡ false
other_length text name differs = elim (cases_Bool (same_name text name)) [
  | inl same ↦ absurd (differs (same_length text name same))
  | inr other ↦ other
]

-- a text of letters and digits, and some of them
record IsPlain (text : List ℕ) : Type 0 where
  some : 0 < length text
  octets : list_all is_plain text ≡ true

plain_by : (text name : List ℕ) → list_all is_plain (str_to_ascii_lowercase name) ≡ true → 0 < length name → same_name text name ≡ true → IsPlain text
plain_by text name plain some e = record {
  some = omega (arith, some, same_length text name e);
  octets = plain_lower text (ap (list_all is_plain) (same_lower text name e) ∙ plain);
}

identity_plain : (text : List ℕ) → is_identity_name text ≡ true → IsPlain text
identity_plain text e = elim (or_cases (same_name text (codes "7bit") || same_name text (codes "8bit")) _ e) [
  | inl first ↦ elim (or_cases (same_name text (codes "7bit")) _ first) [
    | inl seven ↦ plain_by text (codes "7bit") refl (omega arith) seven
    | inr eight ↦ plain_by text (codes "8bit") refl (omega arith) eight
  ]
  | inr binary ↦ plain_by text (codes "binary") refl (omega arith) binary
]

-- such a name alone is one atom
pub plain_keeps : (text : List ℕ) → is_identity_name text ≡ true → KeepsOctets text
plain_keeps text named =
    let plain = identity_plain text named in
    let atom : TokenValue = record { kind = Atom; octets = text } in
    let passes = pass-weaker is_plain (is_atom_octet Mime) plain_atom text plain.octets in
    record {
      tokens = atom ∷ [];
      has = record {
        is_line = ascii_line text (pass-weaker is_plain is_ascii plain_ascii text plain.octets) (pass-weaker is_plain is_line_octet plain_line text plain.octets);
        are_tokens = ([], sym (append-nil text), (plain.some, record { whole = refl; passes = passes; stops = tt }), refl);
      };
      atom = atom;
      words = refl;
      kind = refl;
      named = named;
    }

-- a field that is shorter than the name
pub short_differs : (raw name : List ℕ) → length raw < length name → IsNotNamed raw name
short_differs raw name short front rest e = elim (cases_Bool (same_name front name)) [
  | inl same ↦ absurd (omega (arith, short, same_length front name same, ap length e, length-append front rest))
  | inr other ↦ other
]

-- a field whose front of the name's length isn't the name
pub front_differs : (raw name : List ℕ) → same_name (take (length name) raw) name ≡ false → IsNotNamed raw name
front_differs raw name differs front rest e = elim (cases_Bool (same_name front name)) [
  | inl same ↦
      let len : length name ≡ length front = sym (same_length front name same) in
      let taken : take (length name) raw ≡ front = ap (λ n. take n raw) len ∙ ap (take (length front)) e ∙ take-append_seam front rest in
      absurd (both_ways (same_name front name) (ap (λ text. same_name text name) (sym taken) ∙ differs) same)
  | inr other ↦ other
]
