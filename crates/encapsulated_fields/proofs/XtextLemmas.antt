-- A text in either form is read item by item, in one way.
use Rattle.std.proofs.Common.{◌≡◌, ◌≢◌, ℕ, ◌+◌, ◌-◌, ◌*◌, ◌<◌, ◌≤◌, ◌^◌, Bool, true, false, not, List, [], ◌∷◌, ◌++◌, length, map, codes, get_or, drop, refl, sym, ap, ◌∙◌, subst, arith}
use Rattle.std.proofs.Math.Nat.{pow-le-pow_right}
use Rattle.std.proofs.lemmas.Bool.{and_parts, ltb-true}
use Rattle.std.proofs.lemmas.Bool.Decides.{nat_tests}
use Rattle.std.proofs.lemmas.List.{append_assoc, append-nil, map-append, length-append, get_or-append-add, drop_at}
use Rattle.std.proofs.lemmas.List.Sums.{AllPass-from_list_all}
use Rattle.std.proofs.lemmas.List.Concat.{flat_map-append}
use Rattle.std.proofs.lemmas.Str.{IsCharBoundary-after_ascii, IsUtf8-append, IsUtf8-encode, IsUtf8-nil, char_from_byte, encode_ascii, encode_same, encodes-append, length-encode, len_utf8_bounds}
use Rattle.std.specs.Char.{IsScalar, encode_utf8, digit_value}
use Rattle.std.specs.List.{AllByRecursion, flat_map, list_all}
use Rattle.std.specs.Str.{IsUtf8, IsCharBoundary, encode_utf8_all}
use lib.Utf8.{low_scalar}
use Rattle.mail_wire.specs.Spans.{IsSpan}
use Rattle.mail_wire.proofs.SpanLemmas.{Opposite, span_once}
use Rattle.encapsulated_fields.specs.Xtext.{is_hex_digit, hex_value, AreDigits, XtextItem, Plain, Escape, IsXtextItem, item_spelling, item_character, ReadsAs, BeginsCharacter, BeginsEscape}

-- the address so far is that of the text before rest
pub record ReadsTo (text address rest : List ℕ) : Type 0 where
  pub items : List XtextItem
  pub are_items : AllByRecursion IsXtextItem items
  pub spelled : text ≡ flat_map item_spelling items ++ rest
  pub address_is : address ≡ encode_utf8_all (map item_character items)

items_append : (xs ys : List XtextItem) → AllByRecursion IsXtextItem xs → AllByRecursion IsXtextItem ys → AllByRecursion IsXtextItem (xs ++ ys)
items_append [] ys a b = b
items_append (x ∷ xs) ys a b = (a.0, items_append xs ys a.1 b)

pub ReadsTo-none : (text : List ℕ) → ReadsTo text [] text
ReadsTo-none text = record { items = []; are_items = tt; spelled = refl; address_is = refl }

pub ReadsTo-push : (text address rest after new : List ℕ) (character : ℕ) → ReadsTo text address rest → BeginsCharacter rest character after
    → new ≡ address ++ encode_utf8 character → ReadsTo text new after
ReadsTo-push text address rest after new character reads begins pushed =
    let one : List XtextItem = begins.item ∷ [] in
    record {
      items = reads.items ++ one;
      are_items = items_append reads.items one reads.are_items (begins.is_item, tt);
      spelled = reads.spelled ∙ rw (flat_map-append item_spelling reads.items one, append-nil, append_assoc) (ap (λ r. flat_map item_spelling reads.items ++ r) begins.spelled);
      address_is = pushed ∙ rw (map-append item_character reads.items one, encodes-append (map item_character reads.items) (item_character begins.item ∷ []), append-nil, reads.address_is, begins.character_is) refl;
    }

pub ReadsAs-read : (text address rest : List ℕ) → ReadsTo text address rest → rest ≡ [] → ReadsAs text address
ReadsAs-read text address rest reads end = record {
  items = reads.items;
  are_items = reads.are_items;
  spelled = reads.spelled ∙ rw (end, append-nil) refl;
  address_is = reads.address_is;
}

-- no item begins another
backslash : (c : ℕ) (x y : List ℕ) → encode_utf8 c ++ x ≡ 92 ∷ y → c ≡ 92
backslash c x y e = char_from_byte (92 ∷ y) x c (sym e) (omega arith) (omega arith)

digits_once : (ds es x y : List ℕ) → AreDigits ds → AreDigits es → ds ++ 125 ∷ x ≡ es ++ 125 ∷ y → (ds ≡ es) × (x ≡ y)
digits_once ds es x y a b e =
    let once = span_once is_hex_digit ds es (125 ∷ x) (125 ∷ y) a.hex b.hex refl refl e in
    let rest : 125 ∷ x ≡ 125 ∷ y = once.1 in
    (once.0, cc rest)

item_once : (i j : XtextItem) (x y : List ℕ) → IsXtextItem i → IsXtextItem j → item_spelling i ++ x ≡ item_spelling j ++ y → (i ≡ j) × (x ≡ y)
item_once (Plain c) (Plain d) x y a b e = let once = encode_same c d x y e in (ap Plain once.0, once.1)
item_once (Plain c) (Escape ds) x y a b e = absurd (a.1 (backslash c x (120 ∷ 123 ∷ ((ds ++ 125 ∷ []) ++ y)) e))
item_once (Escape ds) (Plain d) x y a b e = absurd (b.1 (backslash d y (120 ∷ 123 ∷ ((ds ++ 125 ∷ []) ++ x)) (sym e)))
item_once (Escape ds) (Escape es) x y a b e =
    let inner : (ds ++ 125 ∷ []) ++ x ≡ (es ++ 125 ∷ []) ++ y = cc e in
    let same : ds ++ 125 ∷ x ≡ es ++ 125 ∷ y = sym (append_assoc ds (125 ∷ []) x) ∙ inner ∙ append_assoc es (125 ∷ []) y in
    let once = digits_once ds es x y a b same in
    (ap Escape once.0, once.1)

encoded_some : (c : ℕ) (x : List ℕ) → encode_utf8 c ++ x ≡ [] → ⊥
encoded_some c x e =
    let size = length-encode c in
    let least = len_utf8_bounds c in
    omega (arith, ap length e, length-append (encode_utf8 c) x)

no_items : (i : XtextItem) (x : List ℕ) → item_spelling i ++ x ≡ [] → ⊥
no_items (Plain c) x e = encoded_some c x e
no_items (Escape ds) x e = cc e

-- what is read so far is a front of any reading
front_items : (xs ys : List XtextItem) (rest : List ℕ) → AllByRecursion IsXtextItem xs → AllByRecursion IsXtextItem ys → flat_map item_spelling ys ≡ flat_map item_spelling xs ++ rest
    → (more : List XtextItem) × AllByRecursion IsXtextItem more × (ys ≡ xs ++ more) × (rest ≡ flat_map item_spelling more)
front_items [] ys rest a b e = (ys, b, refl, sym e)
front_items (x ∷ xs) [] rest a b e = absurd (no_items x (flat_map item_spelling xs ++ rest) (sym (append_assoc (item_spelling x) (flat_map item_spelling xs) rest) ∙ sym e))
front_items (x ∷ xs) (y ∷ ys) rest a b e =
    let whole : item_spelling y ++ flat_map item_spelling ys ≡ item_spelling x ++ (flat_map item_spelling xs ++ rest) = e ∙ append_assoc (item_spelling x) (flat_map item_spelling xs) rest in
    let once = item_once y x (flat_map item_spelling ys) (flat_map item_spelling xs ++ rest) b.0 a.0 whole in
    let r = front_items xs ys rest a.1 b.1 once.1 in
    let head : y ≡ x = once.0 in
    let tail : ys ≡ xs ++ r.0 = r.2 in
    (r.0, r.1, cc, r.3)

-- where nothing begins what is left, the whole is in neither form
pub not-ReadsAs : (text address rest : List ℕ) → ReadsTo text address rest → 0 < length rest → ((character : ℕ) (after : List ℕ) → BeginsCharacter rest character after → ⊥)
    → (other : List ℕ) → ReadsAs text other → ⊥
not-ReadsAs text address rest reads some none other is =
    let front = front_items reads.items is.items rest reads.are_items is.are_items (sym is.spelled ∙ reads.spelled) in
    stuck front.0 rest front.1 front.3 some none
  where
    stuck : (more : List XtextItem) (rest : List ℕ) → AllByRecursion IsXtextItem more → rest ≡ flat_map item_spelling more → 0 < length rest
        → ((character : ℕ) (after : List ℕ) → BeginsCharacter rest character after → ⊥) → ⊥
    stuck [] rest a e some none = omega (arith, ap length e)
    stuck (i ∷ more) rest a e some none = none (item_character i) (flat_map item_spelling more) (record { item = i; is_item = a.0; spelled = e; character_is = refl })

-- a text is read as one address
pub ReadsAs-once : (text address other : List ℕ) → ReadsAs text address → ReadsAs text other → address ≡ other
ReadsAs-once text address other p q =
    let front = front_items p.items q.items [] p.are_items q.are_items (sym q.spelled ∙ p.spelled ∙ sym (append-nil (flat_map item_spelling p.items))) in
    let none : front.0 ≡ [] = ended front.0 front.3 in
    let same : q.items ≡ p.items = front.2 ∙ rw (none, append-nil) refl in
    p.address_is ∙ ap (λ is. encode_utf8_all (map item_character is)) (sym same) ∙ sym q.address_is
  where
    ended : (items : List XtextItem) → [] ≡ flat_map item_spelling items → items ≡ []
    ended [] e = refl
    ended (i ∷ items) e = absurd (no_items i (flat_map item_spelling items) (sym e))

-- text and address are UTF-8
pub digit_small : (x : ℕ) → is_hex_digit x ≡ true → x < 128
digit_small x h = grind (arith, nat_tests)

utf8-cons : (c : ℕ) (rest : List ℕ) → c < 128 → IsUtf8 rest → IsUtf8 (c ∷ rest)
utf8-cons c rest low u =
    let is : IsUtf8 (encode_utf8 c) = IsUtf8-encode c (low_scalar c (omega arith)) in
    IsUtf8-append (c ∷ []) rest (rw (encode_ascii c low) at is) u

utf8-digits : (ds rest : List ℕ) → list_all is_hex_digit ds ≡ true → IsUtf8 rest → IsUtf8 (ds ++ rest)
utf8-digits [] rest h u = u
utf8-digits (d ∷ ds) rest h u =
    let parts = and_parts (is_hex_digit d) (list_all is_hex_digit ds) h in
    utf8-cons d (ds ++ rest) (digit_small d parts.0) (utf8-digits ds rest parts.1 u)

utf8-item : (i : XtextItem) → IsXtextItem i → IsUtf8 (item_spelling i) × IsScalar (item_character i)
utf8-item (Plain c) is = (IsUtf8-encode c is.0, is.0)
utf8-item (Escape ds) is = (
  utf8-cons 92 (120 ∷ 123 ∷ (ds ++ 125 ∷ [])) (omega arith) (utf8-cons 120 (123 ∷ (ds ++ 125 ∷ [])) (omega arith) (utf8-cons 123 (ds ++ 125 ∷ []) (omega arith)
      (utf8-digits ds (125 ∷ []) is.hex (utf8-cons 125 [] (omega arith) IsUtf8-nil)))),
  is.scalar,
)

utf8-items : (items : List XtextItem) → AllByRecursion IsXtextItem items → IsUtf8 (flat_map item_spelling items) × IsUtf8 (encode_utf8_all (map item_character items))
utf8-items [] are = (IsUtf8-nil, IsUtf8-nil)
utf8-items (i ∷ items) are =
    let one = utf8-item i are.0 in
    let more = utf8-items items are.1 in
    (IsUtf8-append (item_spelling i) (flat_map item_spelling items) one.0 more.0, IsUtf8-append (encode_utf8 (item_character i)) (encode_utf8_all (map item_character items)) (IsUtf8-encode (item_character i) one.1) more.1)

pub ReadsAs-utf8 : (text address : List ℕ) → ReadsAs text address → IsUtf8 text × IsUtf8 address
ReadsAs-utf8 text address is =
    let both = utf8-items is.items is.are_items in
    (subst IsUtf8 (sym is.spelled) both.0, subst IsUtf8 (sym is.address_is) both.1)

-- an octet is a hexadecimal digit or another
pub hex_opposite : Opposite is_hex_digit (λ x. not (is_hex_digit x))
hex_opposite x = not_not (is_hex_digit x)
  where
    not_not : (b : Bool) → b ≡ not (not b)
    not_not true = refl
    not_not false = refl

-- the digits of an escape fit 32 bits
pub number_fits : (n i len : ℕ) → n < 16 ^ i → i < len → len ≤ 6 → 16 * n + 15 < 2 ^ 32
number_fits n i len small h most =
    let places : i ≤ 5 = omega arith in
    let top : 16 ^ i ≤ 16 ^ 5 = pow-le-pow_right {n = 16} (omega arith) places in
    omega arith

pub digit_fits : (digits : List ℕ) (i : ℕ) → list_all is_hex_digit digits ≡ true → i < length digits → digit_value (get_or digits i 0) < 16
digit_fits digits i h l = ltb-true (digit_value (get_or digits i 0)) 16 (AllPass-from_list_all is_hex_digit digits h i 0 l)

-- The longest front of digits decides what follows a backslash.
escape_span : (text after digits closing : List ℕ) (character : ℕ) (rest : List ℕ) → text ≡ 120 ∷ 123 ∷ after → IsSpan is_hex_digit after digits closing
    → (is : BeginsEscape text character rest) → (digits ≡ is.digits) × (closing ≡ 125 ∷ rest)
escape_span text after digits closing character rest e span is =
    let same : 120 ∷ 123 ∷ after ≡ 120 ∷ 123 ∷ (is.digits ++ 125 ∷ rest) = sym e ∙ is.spelled in
    let inner : after ≡ is.digits ++ 125 ∷ rest = cc same in
    span_once is_hex_digit digits is.digits closing (125 ∷ rest) span.passes is.are_digits.hex span.stops refl (sym span.whole ∙ inner)

pub not-BeginsEscape-brace : (text after digits closing : List ℕ) → text ≡ 120 ∷ 123 ∷ after → IsSpan is_hex_digit after digits closing → ((rest : List ℕ) → closing ≢ 125 ∷ rest)
    → (character : ℕ) (rest : List ℕ) → BeginsEscape text character rest → ⊥
not-BeginsEscape-brace text after digits closing e span none character rest is = none rest (escape_span text after digits closing character rest e span is).1

pub not-BeginsEscape-digits : (text after digits closing : List ℕ) → text ≡ 120 ∷ 123 ∷ after → IsSpan is_hex_digit after digits closing → (AreDigits digits → ⊥)
    → (character : ℕ) (rest : List ℕ) → BeginsEscape text character rest → ⊥
not-BeginsEscape-digits text after digits closing e span none character rest is =
    none (subst AreDigits (sym (escape_span text after digits closing character rest e span is).0) is.are_digits)

pub BeginsEscape-made : (text after digits closing rest : List ℕ) (character : ℕ) → text ≡ 120 ∷ 123 ∷ after → IsSpan is_hex_digit after digits closing → closing ≡ 125 ∷ rest
    → AreDigits digits × (character ≡ hex_value digits) → BeginsEscape text character rest
BeginsEscape-made text after digits closing rest character e span brace are = record {
  digits = digits;
  are_digits = are.0;
  spelled = e ∙ ap (λ t. 120 ∷ 123 ∷ t) (span.whole ∙ ap (λ t. digits ++ t) brace);
  character_is = are.1;
}

-- The first character decides what a text begins with.
pub not-BeginsWith-nil : (text : List ℕ) → length text ≡ 0 → (character : ℕ) (rest : List ℕ) → BeginsCharacter text character rest → ⊥
not-BeginsWith-nil [] h character rest is = no_items is.item rest (sym is.spelled)
not-BeginsWith-nil (b ∷ bs) h character rest is = omega arith

pub BeginsWith-plain : (text rest : List ℕ) (c : ℕ) → IsScalar c × (text ≡ encode_utf8 c ++ rest) → c ≢ 92 → BeginsCharacter text c rest
BeginsWith-plain text rest c is other = record { item = Plain c; is_item = (is.0, other); spelled = is.1; character_is = refl }

backslash_first : (text after : List ℕ) (first : ℕ) → text ≡ encode_utf8 first ++ after → first ≡ 92 → text ≡ 92 ∷ after
backslash_first text after first e is = e ∙ ap (λ c. encode_utf8 c ++ after) is ∙ ap (λ t. t ++ after) (encode_ascii 92 (omega arith))

pub not-BeginsWith-escape : (text after bytes : List ℕ) (first : ℕ) → text ≡ encode_utf8 first ++ after → first ≡ 92 → bytes ≡ after
    → ((character : ℕ) (rest : List ℕ) → BeginsEscape bytes character rest → ⊥) → (character : ℕ) (rest : List ℕ) → BeginsCharacter text character rest → ⊥
not-BeginsWith-escape text after bytes first e is same none character rest begins =
    by begins.item begins.is_item (sym (backslash_first text after first e is) ∙ begins.spelled)
  where
    by : (item : XtextItem) → IsXtextItem item → 92 ∷ after ≡ item_spelling item ++ rest → ⊥
    by (Plain c) proper f = proper.1 (backslash c rest after (sym f))
    by (Escape ds) proper f =
        let inner : after ≡ 120 ∷ 123 ∷ ((ds ++ 125 ∷ []) ++ rest) = cc f in
        none (hex_value ds) rest (record {
          digits = ds;
          are_digits = proper;
          spelled = same ∙ inner ∙ ap (λ t. 120 ∷ 123 ∷ t) (append_assoc ds (125 ∷ []) rest);
          character_is = refl;
        })

-- an escape ends at a place where the text may be cut, and rest stands there
abbrev ends_at : List ℕ → List ℕ → ℕ
ends_at after rest = length after - length rest

escape_end : (after rest : List ℕ) (character : ℕ) → (is : BeginsEscape after character rest) → ends_at after rest ≡ 2 + length is.digits + 1
escape_end after rest character is =
    let size = length-append is.digits (125 ∷ rest) in
    let whole = ap length is.spelled in
    omega arith

brace_at : (after digits rest : List ℕ) → after ≡ 120 ∷ 123 ∷ (digits ++ 125 ∷ rest) → get_or after (2 + length digits) 0 ≡ 125
brace_at after digits rest e =
    let front : List ℕ = 120 ∷ 123 ∷ digits in
    let place : 2 + length digits ≡ length front + 0 = omega arith in
    rw (e, place) (get_or-append-add front (125 ∷ rest) 0 0)

pub escape_cut : (after bytes rest : List ℕ) (character : ℕ) → IsUtf8 after → bytes ≡ after → BeginsEscape bytes character rest → IsCharBoundary after (ends_at after rest)
escape_cut after bytes rest character u same begins =
    let is : BeginsEscape after character rest = subst (λ t. BeginsEscape t character rest) same begins in
    let size = length-append is.digits (125 ∷ rest) in
    let whole = ap length is.spelled in
    let brace = brace_at after is.digits rest is.spelled in
    subst (IsCharBoundary after) (sym (escape_end after rest character is)) (IsCharBoundary-after_ascii after (2 + length is.digits) u (omega arith) (omega arith))

pub BeginsWith-escape : (text after bytes rest tail : List ℕ) (first character : ℕ) → text ≡ encode_utf8 first ++ after → first ≡ 92 → bytes ≡ after
    → BeginsEscape bytes character rest → tail ≡ drop (ends_at after rest) after → BeginsCharacter text character tail
BeginsWith-escape text after bytes rest tail first character e is_first same begins cut =
    let is : BeginsEscape after character rest = subst (λ t. BeginsEscape t character rest) same begins in
    let front : List ℕ = codes "x{" ++ (is.digits ++ 125 ∷ []) in
    let whole : after ≡ front ++ rest = is.spelled ∙ ap (λ t. 120 ∷ 123 ∷ t) (sym (append_assoc is.digits (125 ∷ []) rest)) in
    let size = length-append is.digits (125 ∷ []) in
    let end = escape_end after rest character is in
    let tail_is : tail ≡ rest = cut ∙ ap (λ t. drop (ends_at after rest) t) whole ∙ drop_at front rest (ends_at after rest) (omega arith) in
    record {
      item = Escape is.digits;
      is_item = is.are_digits;
      spelled = backslash_first text after first e is_first ∙ ap (λ t. 92 ∷ t) (whole ∙ ap (λ t. front ++ t) (sym tail_is));
      character_is = is.character_is;
    }

pub BeginsWith-shortens : (text rest : List ℕ) (character : ℕ) → BeginsCharacter text character rest → length rest < length text
BeginsWith-shortens text rest character is = by is.item is.spelled
  where
    by : (item : XtextItem) → text ≡ item_spelling item ++ rest → length rest < length text
    by (Plain c) e =
        let size = length-encode c in
        let least = len_utf8_bounds c in
        omega (arith, ap length e, length-append (encode_utf8 c) rest)
    by (Escape ds) e = omega (arith, ap length e, length-append (ds ++ 125 ∷ []) rest)
