-- The texts of a report's fields have no NUL, no CR and no LF.
use Rattle.std.proofs.Common.{◌≡◌, ℕ, ◌+◌, ◌/◌, ◌%◌, ◌≤◌, Bool, true, false, ◌||◌, cond, ltb, Some, List, [], ◌∷◌, ◌++◌, refl, arith}
use Rattle.std.specs.Prelude.{chars, encode_utf8, if◌then◌else◌, nat_lt}
use Rattle.std.specs.List.{list_all, flat_map}
use Rattle.std.proofs.lemmas.Bool.{and_from}
use Rattle.std.proofs.lemmas.Bool.Decides.{nat_tests}
use Rattle.std.proofs.lemmas.Str.{encode_ascii}
use Rattle.mail_wire.specs.Numbers.{is_digit}
use Rattle.mail_wire.proofs.AllLemmas.{pass-weaker, pass-append, pass-parts}
use Rattle.ace_domains.specs.Domains.{normal_form, is_host_octet}
use Rattle.ace_domains.proofs.FormLemmas.{form_name}
use Rattle.address_grammar.specs.declared.Address.{Address}
use Rattle.address_grammar.specs.Addresses.{address_text}
use Rattle.address_grammar.specs.Paths.{ComesInPath}
use Rattle.address_grammar.proofs.WritingLemmas.{path_again}
use Rattle.field_tokens.specs.TokenOctets.{is_line_octet}
use Rattle.encapsulated_fields.specs.AddressForms.{escape_of, hexadecimal, is_plain, unitext_char, unitext_form, xtext_char, xtext_form}
use Rattle.encapsulated_fields.specs.Xtext.{is_hex_digit}
use Rattle.encapsulated_fields.proofs.FormLemmas.{plain_small}
use Rattle.encapsulated_fields.proofs.HexLemmas.{hex-hexadecimal}
use Rattle.utf8_reports.proofs.WholeLines.{IsPlain}

-- an address of a path
pub address_plain : (address : Address) → ComesInPath address → IsPlain (address_text address)
address_plain address comes =
    let line = (path_again address comes).has_tokens.is_line in
    (pass-parts is_line_octet (address_text address) (62 ∷ []) (pass-parts is_line_octet (60 ∷ []) (address_text address ++ 62 ∷ []) line.plain).1).0

-- a normal form
host_octet_plain : (x : ℕ) → is_host_octet x ≡ true → is_line_octet x ≡ true
host_octet_plain x is = grind (arith, nat_tests)

pub name_plain : (name : List ℕ) → normal_form name ≡ Some name → IsPlain name
name_plain name form = pass-weaker is_host_octet is_line_octet host_octet_plain name (form_name name name form).octets

-- digits
digit_plain : (x : ℕ) → is_digit x ≡ true → is_line_octet x ≡ true
digit_plain x is = grind (arith, nat_tests)

pub digits_plain : (digits : List ℕ) → list_all is_digit digits ≡ true → IsPlain digits
digits_plain digits are = pass-weaker is_digit is_line_octet digit_plain digits are

one_digit : (n : ℕ) → is_line_octet (48 + n) ≡ true
one_digit n = grind (arith, nat_tests)

pub code_plain : (a b c : ℕ) → IsPlain ((48 + a) ∷ (48 + b) ∷ (48 + c) ∷ [])
code_plain a b c = and_from _ _ (one_digit a) (and_from _ _ (one_digit b) (and_from _ true (one_digit c) refl))

-- ---- the two forms of an address that isn't ASCII

hex_digit_plain : (x : ℕ) → is_hex_digit x ≡ true → is_line_octet x ≡ true
hex_digit_plain x is = grind (arith, nat_tests)

escape_plain : (c : ℕ) → IsPlain (escape_of c)
escape_plain c = pass-append is_line_octet (hexadecimal c) (125 ∷ []) (pass-weaker is_hex_digit is_line_octet hex_digit_plain (hexadecimal c) (hex-hexadecimal c)) refl

high_octet : (x : ℕ) → 128 ≤ x → is_line_octet x ≡ true
high_octet x high = grind (arith, nat_tests)

-- a character above 127
above_plain : (c : ℕ) → 128 ≤ c → IsPlain (encode_utf8 c)
unfolding lib.Utf8.encode
above_plain c high = by (ltb c 128) (ltb c 2048) (ltb c 65536)
  where
    two : (a b : ℕ) → 128 ≤ a → 128 ≤ b → IsPlain (a ∷ b ∷ [])
    two a b p q = and_from _ _ (high_octet a p) (and_from _ true (high_octet b q) refl)

    by : (first second third : Bool)
        → IsPlain (cond first (c ∷ []) (cond second ((192 + c / 64) ∷ (128 + c % 64) ∷ [])
        (cond third ((224 + c / 4096) ∷ (128 + c / 64 % 64) ∷ (128 + c % 64) ∷ []) ((240 + c / 262144) ∷ (128 + c / 4096 % 64) ∷ (128 + c / 64 % 64) ∷ (128 + c % 64) ∷ []))))
    by true second third = and_from _ true (high_octet c high) refl
    by false true third = two (192 + c / 64) (128 + c % 64) (omega arith) (omega arith)
    by false false true = and_from _ _ (high_octet (224 + c / 4096) (omega arith)) (two (128 + c / 64 % 64) (128 + c % 64) (omega arith) (omega arith))
    by false false false =
        and_from _ _ (high_octet (240 + c / 262144) (omega arith)) (and_from _ _ (high_octet (128 + c / 4096 % 64) (omega arith)) (two (128 + c / 64 % 64) (128 + c % 64) (omega arith) (omega arith)))

small_plain : (c : ℕ) → is_plain c ≡ true → is_line_octet c ≡ true
small_plain c is = grind (arith, nat_tests)

plain_char : (c : ℕ) → is_plain c ≡ true → IsPlain (encode_utf8 c)
plain_char c is = rw (encode_ascii c (plain_small c is)) (and_from _ true (small_plain c is) refl)

xtext_plain_char : (c : ℕ) (b : Bool) → is_plain c ≡ b → IsPlain (if b then encode_utf8 c else escape_of c)
xtext_plain_char c true is = plain_char c is
xtext_plain_char c false is = escape_plain c

not_low : (c : ℕ) → nat_lt 127 c ≡ true → 128 ≤ c
not_low c is = grind (arith, nat_tests)

unitext_plain_char : (c : ℕ) (a b : Bool) → is_plain c ≡ a → nat_lt 127 c ≡ b → IsPlain (if a || b then encode_utf8 c else escape_of c)
unitext_plain_char c true b is other = plain_char c is
unitext_plain_char c false true is other = above_plain c (not_low c other)
unitext_plain_char c false false is other = escape_plain c

xtext_plain : (cs : List ℕ) → IsPlain (flat_map xtext_char cs)
xtext_plain [] = refl
xtext_plain (c ∷ cs) = pass-append is_line_octet (xtext_char c) (flat_map xtext_char cs) (xtext_plain_char c (is_plain c) refl) (xtext_plain cs)

unitext_plain : (cs : List ℕ) → IsPlain (flat_map unitext_char cs)
unitext_plain [] = refl
unitext_plain (c ∷ cs) = pass-append is_line_octet (unitext_char c) (flat_map unitext_char cs) (unitext_plain_char c (is_plain c) (nat_lt 127 c) refl refl) (unitext_plain cs)

pub xtext_form_plain : (text : List ℕ) → IsPlain (xtext_form text)
xtext_form_plain text = xtext_plain (chars text)

pub unitext_form_plain : (text : List ℕ) → IsPlain (unitext_form text)
unitext_form_plain text = unitext_plain (chars text)
