-- The pieces of a UTF-8 address are read back.
use Rattle.std.proofs.Common.{◌≡◌, ℕ, ◌<◌, ◌&&◌, nat_lt, Bool, true, false, List, [], ◌∷◌, ◌++◌, length, map, codes, if◌then◌else◌, refl, sym, ap, subst, arith}
use Rattle.std.proofs.lemmas.Bool.{and_parts, and_from, both_ways}
use Rattle.std.proofs.lemmas.Bool.Decides.{nat_tests}
use Rattle.std.proofs.lemmas.List.{append-nil, length-append}
use Rattle.std.proofs.lemmas.Str.{encode_ascii, encodes-chars}
use Rattle.std.specs.Char.{encode_utf8}
use Rattle.std.specs.List.{AllByRecursion, flat_map, list_all}
use Rattle.std.specs.Str.{bytes_eq, chars, encode_utf8_all, IsUtf8}
use Rattle.mail_wire.specs.Octets.{is_ascii, is_white}
use Rattle.mail_wire.specs.Spans.{Stops, StopsAfter, IsTrimmed}
use Rattle.mail_wire.proofs.AllLemmas.{pass-append, pass-weaker, pass-parts}
use Rattle.address_lists.proofs.PlacesAgain.{white_ascii}
use Rattle.field_tokens.specs.declared.Style.TheVariants.{Mime}
use Rattle.field_tokens.specs.TokenOctets.{is_atom_octet, is_line_octet}
use Rattle.encapsulated_fields.specs.AddressForms.{escape_of, hexadecimal, is_plain, xtext_char, xtext_form}
use Rattle.encapsulated_fields.specs.Xtext.{is_hex_digit, XtextItem, Plain, Escape, IsXtextItem, item_spelling, item_character, ReadsAs}
use Rattle.encapsulated_fields.proofs.HexLemmas.{hex-hexadecimal}
use Rattle.encapsulated_fields.proofs.FormLemmas.{ReadsAs-xtext, plain_small, ascii_digit}
use Rattle.encapsulated_fields.proofs.XtextLemmas.{ReadsAs-utf8}
use Rattle.field_downgrade.specs.Typed.{is_type_octet, utf8_type, WritesType, WrittenSays, SaysTyped, TypedPieces, IsTypedAgain}
use Rattle.field_downgrade.proofs.TypedLemmas.{SaysTyped-once}

pub TypedPieces-says : (value : List ℕ) (pieces : List (List ℕ)) → TypedPieces value pieces → (type : List ℕ) × (text : List ℕ) × SaysTyped value type text
TypedPieces-says value pieces p = (utf8_type, p.text, p.says)

pub TypedPieces-some : (value text : List ℕ) → SaysTyped value utf8_type text → (pieces : List (List ℕ)) × TypedPieces value pieces
TypedPieces-some value text says = ((codes "utf-8; " ++ xtext_form text) ∷ [], record { text = text; says = says; pieces_are = refl })

-- ---- a value with an octet above 127 says an address that isn't empty

item_ascii : (item : XtextItem) → IsXtextItem item → list_all is_ascii (encode_utf8 (item_character item)) ≡ true → list_all is_ascii (item_spelling item) ≡ true
item_ascii (Plain c) is h = h
item_ascii (Escape ds) is h = pass-append is_ascii ds (125 ∷ []) (pass-weaker is_hex_digit is_ascii ascii_digit ds is.hex) refl

items_ascii : (items : List XtextItem) → AllByRecursion IsXtextItem items → list_all is_ascii (encode_utf8_all (map item_character items)) ≡ true → list_all is_ascii (flat_map item_spelling items) ≡ true
items_ascii [] are h = refl
items_ascii (i ∷ items) are h =
    let parts = pass-parts is_ascii (encode_utf8 (item_character i)) (encode_utf8_all (map item_character items)) h in
    pass-append is_ascii (item_spelling i) (flat_map item_spelling items) (item_ascii i are.0 parts.0) (items_ascii items are.1 parts.1)

ReadsAs-ascii : (written text : List ℕ) → ReadsAs written text → list_all is_ascii text ≡ true → list_all is_ascii written ≡ true
ReadsAs-ascii written text is h = rw (is.spelled) (items_ascii is.items is.are_items (subst (λ t. list_all is_ascii t ≡ true) is.address_is h))

WrittenSays-ascii : (b : Bool) (written text : List ℕ) → WrittenSays b written text → list_all is_ascii text ≡ true → list_all is_ascii written ≡ true
WrittenSays-ascii true written text says h = ReadsAs-ascii written text says h
WrittenSays-ascii false written text says h = rw (← says) h

trimmed_ascii : (octets trimmed : List ℕ) → IsTrimmed is_white octets trimmed → list_all is_ascii trimmed ≡ true → list_all is_ascii octets ≡ true
trimmed_ascii octets trimmed is h =
    rw (is.whole) (pass-append is_ascii is.lead (trimmed ++ is.trail) (pass-weaker is_white is_ascii white_ascii is.lead is.lead_passes)
    (pass-append is_ascii trimmed is.trail h (pass-weaker is_white is_ascii white_ascii is.trail is.trail_passes)))

type_ascii : (x : ℕ) → is_type_octet x ≡ true → is_ascii x ≡ true
type_ascii x h = (and_parts (is_ascii x) (is_atom_octet Mime x) h).0

SaysTyped-ascii : (value type text : List ℕ) → SaysTyped value type text → list_all is_ascii text ≡ true → list_all is_ascii value ≡ true
SaysTyped-ascii value type text says h =
    let is = says.is_typed in
    let front = trimmed_ascii is.front is.type_is.atom is.type_is.atom_is (pass-weaker is_type_octet is_ascii type_ascii is.type_is.atom is.type_is.are) in
    let following = trimmed_ascii is.following says.written is.written_is (WrittenSays-ascii (bytes_eq type utf8_type) says.written text says.says h) in
    rw (is.cuts.whole) (pass-append is_ascii is.front (59 ∷ is.following) front following)

high_some : (value type text : List ℕ) → SaysTyped value type text → list_all is_ascii value ≡ false → 0 < length text
high_some value type [] says high = absurd (both_ways (list_all is_ascii value) high (SaysTyped-ascii value type [] says refl))
high_some value type (x ∷ text) says high = omega arith

-- ---- the ASCII form is visible

abbrev is_visible : ℕ → Bool
is_visible x = nat_lt 32 x && nat_lt x 127

plain_visible : (c : ℕ) → is_plain c ≡ true → is_visible c ≡ true
plain_visible c h = grind (arith, nat_tests)

digit_visible : (x : ℕ) → is_hex_digit x ≡ true → is_visible x ≡ true
digit_visible x h = grind (arith, nat_tests)

char_visible : (c : ℕ) (b : Bool) → is_plain c ≡ b → list_all is_visible (if b then encode_utf8 c else escape_of c) ≡ true
char_visible c true is = rw (encode_ascii c (plain_small c is)) (and_from (is_visible c) true (plain_visible c is) refl)
char_visible c false is = pass-append is_visible (hexadecimal c) (125 ∷ []) (pass-weaker is_hex_digit is_visible digit_visible (hexadecimal c) (hex-hexadecimal c)) refl

chars_visible : (cs : List ℕ) → list_all is_visible (flat_map xtext_char cs) ≡ true
chars_visible [] = refl
chars_visible (c ∷ cs) = pass-append is_visible (xtext_char c) (flat_map xtext_char cs) (char_visible c (is_plain c) refl) (chars_visible cs)

char_some : (c : ℕ) (b : Bool) → is_plain c ≡ b → 0 < length (if b then encode_utf8 c else escape_of c)
char_some c true is = rw (encode_ascii c (plain_small c is)) (omega arith)
char_some c false is = omega arith

form_some : (text : List ℕ) → IsUtf8 text → 0 < length text → 0 < length (xtext_form text)
form_some text u some = by (chars text) (encodes-chars text u)
  where
    by : (cs : List ℕ) → encode_utf8_all cs ≡ text → 0 < length (flat_map xtext_char cs)
    by [] e = absurd (omega (arith, some, ap length e))
    by (c ∷ cs) e = omega (arith, length-append (xtext_char c) (flat_map xtext_char cs), char_some c (is_plain c) refl)

visible_ascii : (x : ℕ) → is_visible x ≡ true → is_ascii x ≡ true
visible_ascii x h = grind (arith, nat_tests)

visible_line : (x : ℕ) → is_visible x ≡ true → is_line_octet x ≡ true
visible_line x h = grind (arith, nat_tests)

visible_no_white : (x : ℕ) → is_visible x ≡ true → is_white x ≡ false
visible_no_white x h = grind (arith, nat_tests)

-- ---- no white at the ends

begins_nonwhite : (xs : List ℕ) → list_all is_visible xs ≡ true → Stops is_white xs
begins_nonwhite [] h = tt
begins_nonwhite (x ∷ xs) h = visible_no_white x (and_parts (is_visible x) (list_all is_visible xs) h).0

ends_nonwhite : (xs : List ℕ) → list_all is_visible xs ≡ true → StopsAfter is_white xs
ends_nonwhite [] h = tt
ends_nonwhite (x ∷ []) h = visible_no_white x (and_parts (is_visible x) true h).0
ends_nonwhite (x ∷ y ∷ xs) h = ends_nonwhite (y ∷ xs) (and_parts (is_visible x) (list_all is_visible (y ∷ xs)) h).1

ends_after : (x : ℕ) (xs : List ℕ) → 0 < length xs → StopsAfter is_white xs → StopsAfter is_white (x ∷ xs)
ends_after x [] some ends = absurd (omega (arith, some))
ends_after x (y ∷ xs) some ends = ends

-- ---- read back

trimmed_form : (form : List ℕ) → list_all is_visible form ≡ true → IsTrimmed is_white (32 ∷ form) form
trimmed_form form h = record {
  lead = 32 ∷ [];
  trail = [];
  lead_passes = refl;
  trail_passes = refl;
  begins = begins_nonwhite form h;
  ends = ends_nonwhite form h;
  whole = ap (λ t. 32 ∷ t) (sym (append-nil form));
}

utf8_written : WritesType (codes "utf-8") utf8_type
utf8_written = record {
  atom = codes "utf-8";
  atom_is = record { lead = []; trail = []; lead_passes = refl; trail_passes = refl; begins = refl; ends = refl; whole = refl };
  some = omega arith;
  are = refl;
  lower = refl;
}

form_says : (text : List ℕ) → IsUtf8 text → SaysTyped (codes "utf-8; " ++ xtext_form text) utf8_type text
form_says text u = record {
  written = xtext_form text;
  is_typed = record {
    front = codes "utf-8";
    following = 32 ∷ xtext_form text;
    cuts = record { whole = refl; first = refl };
    type_is = utf8_written;
    written_is = trimmed_form (xtext_form text) (chars_visible (chars text));
  };
  says = ReadsAs-xtext text u;
}

form_again : (text : List ℕ) → IsUtf8 text → 0 < length text → IsTypedAgain utf8_type text ((codes "utf-8; " ++ xtext_form text) ∷ [])
form_again text u some =
    let visible = chars_visible (chars text) in
    record {
      says = form_says text u;
      begins = refl;
      ends = ends_after 32 (xtext_form text) (form_some text u some) (ends_nonwhite (xtext_form text) visible);
      are_pieces = (
        record {
          some = omega arith;
          ascii = pass-weaker is_visible is_ascii visible_ascii (xtext_form text) visible;
          line = pass-weaker is_visible is_line_octet visible_line (xtext_form text) visible;
        },
        tt,
      );
      some = omega arith;
    }

-- A value with an octet above 127 is read back from its pieces.
pub TypedPieces-read : (value : List ℕ) (pieces : List (List ℕ)) (type text : List ℕ) → list_all is_ascii value ≡ false → TypedPieces value pieces → SaysTyped value type text → IsTypedAgain type text pieces
TypedPieces-read value pieces type text high p says =
    let once = SaysTyped-once value type utf8_type text p.text says p.says in
    let some : 0 < length p.text = high_some value utf8_type p.text p.says high in
    rw (once.0, once.1, p.pieces_are) (form_again p.text (ReadsAs-utf8 p.says.written p.text p.says.says).1 some)
