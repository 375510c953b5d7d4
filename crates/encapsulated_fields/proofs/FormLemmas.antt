-- The forms of an address are read back, and the first one is ASCII.
use Rattle.std.proofs.Common.{◌≡◌, ℕ, ◌<◌, ◌||◌, Bool, true, false, nat_lt, if◌then◌else◌, List, [], ◌∷◌, ◌++◌, refl, sym, ap, ◌∙◌, subst, arith, inl, inr}
use Rattle.std.proofs.lemmas.Bool.{and_parts, and_from, both_ways, lt-ltb}
use Rattle.std.proofs.lemmas.Bool.Decides.{nat_tests}
use Rattle.std.proofs.lemmas.Str.{encode_ascii, encodes-chars, scalars-chars}
use Rattle.std.specs.Char.{encode_utf8, IsScalar}
use Rattle.std.specs.List.{flat_map, list_all}
use Rattle.std.specs.Str.{IsUtf8, chars, encode_utf8_all, all_scalars}
use lib.Utf8.{scalar, scalar_cases}
use Rattle.mail_wire.specs.Octets.{is_ascii}
use Rattle.mail_wire.proofs.AllLemmas.{pass-weaker, pass-append}
use Rattle.encapsulated_fields.specs.AddressForms.{hexadecimal, escape_of, is_plain, xtext_char, xtext_form, unitext_form}
use Rattle.encapsulated_fields.specs.Xtext.{is_hex_digit, hex_value, AreDigits, XtextItem, Plain, Escape, IsXtextItem, item_spelling, item_character, ReadsAs}
use Rattle.encapsulated_fields.proofs.HexLemmas.{hex_value-hexadecimal, hex-hexadecimal, length-hexadecimal}

-- what a character gives where those that pass stand for themselves
abbrev form_char : (ℕ → Bool) → ℕ → List ℕ
form_char keeps c = if keeps c then encode_utf8 c else escape_of c

small : (c : ℕ) → IsScalar c → c < 0x11_0000
small c is = elim (scalar_cases c is) [ inl l ↦ omega arith | inr g ↦ g.1 ]

value-scalar : (c : ℕ) → IsScalar c → hex_value (hexadecimal c) ≡ c
value-scalar c is = let fits = small c is in hex_value-hexadecimal c (omega arith)

AreDigits-hexadecimal : (c : ℕ) → IsScalar c → AreDigits (hexadecimal c)
AreDigits-hexadecimal c is =
    let size = length-hexadecimal c in
    record {
      least = size.0;
      most = size.1;
      hex = hex-hexadecimal c;
      scalar = subst IsScalar (sym (value-scalar c is)) is;
    }

pub ReadsAs-item : (item : XtextItem) (text address : List ℕ) → IsXtextItem item → ReadsAs text address
    → ReadsAs (item_spelling item ++ text) (encode_utf8 (item_character item) ++ address)
ReadsAs-item item text address is reads = record {
  items = item ∷ reads.items;
  are_items = (is, reads.are_items);
  spelled = ap (λ t. item_spelling item ++ t) reads.spelled;
  address_is = ap (λ t. encode_utf8 (item_character item) ++ t) reads.address_is;
}

ReadsAs-char : (keeps : ℕ → Bool) (c : ℕ) (b : Bool) (text address : List ℕ) → keeps 92 ≡ false → keeps c ≡ b → IsScalar c → ReadsAs text address
    → ReadsAs ((if b then encode_utf8 c else escape_of c) ++ text) (encode_utf8 c ++ address)
ReadsAs-char keeps c true text address escaped is proper reads =
    ReadsAs-item (Plain c) text address (proper, λ e. both_ways (keeps c) (ap keeps e ∙ escaped) is) reads
ReadsAs-char keeps c false text address escaped is proper reads =
    let item = ReadsAs-item (Escape (hexadecimal c)) text address (AreDigits-hexadecimal c proper) reads in
    subst (λ d. ReadsAs (escape_of c ++ text) (encode_utf8 d ++ address)) (value-scalar c proper) item

ReadsAs-form : (keeps : ℕ → Bool) (cs : List ℕ) → keeps 92 ≡ false → all_scalars cs ≡ true → ReadsAs (flat_map (form_char keeps) cs) (encode_utf8_all cs)
ReadsAs-form keeps [] escaped ok = record { items = []; are_items = tt; spelled = refl; address_is = refl }
ReadsAs-form keeps (c ∷ cs) escaped ok =
    let parts = and_parts (scalar c) (all_scalars cs) ok in
    ReadsAs-char keeps c (keeps c) (flat_map (form_char keeps) cs) (encode_utf8_all cs) escaped refl parts.0 (ReadsAs-form keeps cs escaped parts.1)

pub ReadsAs-xtext : (address : List ℕ) → IsUtf8 address → ReadsAs (xtext_form address) address
ReadsAs-xtext address u =
    subst (ReadsAs (xtext_form address)) (encodes-chars address u) (ReadsAs-form is_plain (chars address) refl (scalars-chars address u))

pub ReadsAs-unitext : (address : List ℕ) → IsUtf8 address → ReadsAs (unitext_form address) address
ReadsAs-unitext address u =
    subst (ReadsAs (unitext_form address)) (encodes-chars address u) (ReadsAs-form (λ c. is_plain c || nat_lt 127 c) (chars address) refl (scalars-chars address u))

-- The first form is ASCII.
pub plain_small : (c : ℕ) → is_plain c ≡ true → c < 128
plain_small c h = grind (arith, nat_tests)

pub ascii_digit : (x : ℕ) → is_hex_digit x ≡ true → is_ascii x ≡ true
ascii_digit x h = grind (arith, nat_tests)

ascii_escape : (c : ℕ) → list_all is_ascii (escape_of c) ≡ true
ascii_escape c = pass-append is_ascii (hexadecimal c) (125 ∷ []) (pass-weaker is_hex_digit is_ascii ascii_digit (hexadecimal c) (hex-hexadecimal c)) refl

ascii_char : (c : ℕ) (b : Bool) → is_plain c ≡ b → list_all is_ascii (if b then encode_utf8 c else escape_of c) ≡ true
ascii_char c true is =
    let low = plain_small c is in
    rw (encode_ascii c low) (and_from (is_ascii c) true (lt-ltb c 128 low) refl)
ascii_char c false is = ascii_escape c

ascii_chars : (cs : List ℕ) → list_all is_ascii (flat_map xtext_char cs) ≡ true
ascii_chars [] = refl
ascii_chars (c ∷ cs) = pass-append is_ascii (xtext_char c) (flat_map xtext_char cs) (ascii_char c (is_plain c) refl) (ascii_chars cs)

pub ascii_xtext : (address : List ℕ) → list_all is_ascii (xtext_form address) ≡ true
ascii_xtext address = ascii_chars (chars address)
