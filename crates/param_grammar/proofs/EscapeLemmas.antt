-- An extended text is read octet by octet, in one way, and what is written is read back.
use Rattle.std.proofs.Common.{false, ◌≡◌, ◌≢◌, ℕ, ◌+◌, ◌*◌, ◌/◌, ◌%◌, ◌<◌, true, List, [], ◌∷◌, ◌++◌, length, map, refl, sym, ap, ◌∙◌, arith, get_or, drop, All, inl, inr}
use Rattle.std.proofs.lemmas.Bool.{cases_Bool, cond-true, cond-false}
use Rattle.std.proofs.lemmas.Bool.Decides.{nat_tests}
use Rattle.std.proofs.lemmas.List.{append_assoc, append-nil, map-append, drop_more}
use Rattle.std.proofs.lemmas.List.Concat.{flat_map-append}
use Rattle.std.proofs.lemmas.List.Elements.{All-head, All-tail}
use Rattle.std.specs.Char.{digit_value}
use Rattle.std.specs.Fmt.{digit_glyph}
use Rattle.std.specs.List.{AllByRecursion, flat_map}
use Rattle.percent_encoding.specs.Percent.{percent_encode_byte}
use Rattle.param_grammar.specs.Escapes.{EscapedItem, Plain, Escape, IsEscapedItem, item_spelling, item_octet, IsEscaped, BeginsEscaped, is_attribute_octet, escaped_octet, escaped}

-- the octets so far are those of the text before rest
pub record ReadsTo (text octets rest : List ℕ) : Type 0 where
  pub items : List EscapedItem
  pub are_items : AllByRecursion IsEscapedItem items
  pub spelled : text ≡ flat_map item_spelling items ++ rest
  pub octets_are : octets ≡ map item_octet items

items_append : (xs ys : List EscapedItem) → AllByRecursion IsEscapedItem xs → AllByRecursion IsEscapedItem ys → AllByRecursion IsEscapedItem (xs ++ ys)
items_append [] ys a b = b
items_append (x ∷ xs) ys a b = (a.0, items_append xs ys a.1 b)

pub ReadsTo-none : (text : List ℕ) → ReadsTo text [] text
ReadsTo-none text = record { items = []; are_items = tt; spelled = refl; octets_are = refl }

pub ReadsTo-push : (text octets rest after new : List ℕ) (octet : ℕ) → ReadsTo text octets rest → BeginsEscaped rest octet after → new ≡ octets ++ octet ∷ [] → ReadsTo text new after
ReadsTo-push text octets rest after new octet reads begins pushed =
    let one : List EscapedItem = begins.item ∷ [] in
    record {
      items = reads.items ++ one;
      are_items = items_append reads.items one reads.are_items (begins.is_item, tt);
      spelled = reads.spelled ∙ rw (flat_map-append item_spelling reads.items one, append-nil, append_assoc) (ap (λ r. flat_map item_spelling reads.items ++ r) begins.spelled);
      octets_are = rw (pushed, map-append item_octet reads.items one, reads.octets_are, begins.octet_is) refl;
    }

pub IsEscaped-read : (text octets rest : List ℕ) → ReadsTo text octets rest → rest ≡ [] → IsEscaped text octets
IsEscaped-read text octets rest reads end = record {
  items = reads.items;
  are_items = reads.are_items;
  spelled = reads.spelled ∙ rw (end, append-nil) refl;
  octets_are = reads.octets_are;
}

-- no item begins another
item_once : (i j : EscapedItem) (x y : List ℕ) → IsEscapedItem i → IsEscapedItem j → item_spelling i ++ x ≡ item_spelling j ++ y → (i ≡ j) × (x ≡ y)
item_once (Escape h l) (Escape k m) x y a b e = (cc e, cc e)
item_once (Escape h l) (Plain c) x y a b e = absurd (b (cc e))
item_once (Plain c) (Escape h l) x y a b e = absurd (a (cc e))
item_once (Plain c) (Plain d) x y a b e = (cc e, cc e)

no_items : (i : EscapedItem) (x : List ℕ) → item_spelling i ++ x ≡ [] → ⊥
no_items (Escape h l) x e = cc e
no_items (Plain c) x e = cc e

-- what is read so far is a front of any reading
front_items : (xs ys : List EscapedItem) (rest : List ℕ) → AllByRecursion IsEscapedItem xs → AllByRecursion IsEscapedItem ys → flat_map item_spelling ys ≡ flat_map item_spelling xs ++ rest
    → (more : List EscapedItem) × AllByRecursion IsEscapedItem more × (ys ≡ xs ++ more) × (rest ≡ flat_map item_spelling more)
front_items [] ys rest a b e = (ys, b, refl, sym e)
front_items (x ∷ xs) [] rest a b e = absurd (no_items x (flat_map item_spelling xs ++ rest) (rw append_assoc at (sym e)))
front_items (x ∷ xs) (y ∷ ys) rest a b e =
    let whole : item_spelling y ++ flat_map item_spelling ys ≡ item_spelling x ++ (flat_map item_spelling xs ++ rest) = rw append_assoc at e in
    let once = item_once y x (flat_map item_spelling ys) (flat_map item_spelling xs ++ rest) b.0 a.0 whole in
    let r = front_items xs ys rest a.1 b.1 once.1 in
    let head : y ≡ x = once.0 in
    let tail : ys ≡ xs ++ r.0 = r.2 in
    (r.0, r.1, cc, r.3)

-- where nothing begins what is left, the whole spells no octets
pub not-IsEscaped : (text octets rest : List ℕ) → ReadsTo text octets rest → 0 < length rest → ((octet : ℕ) (after : List ℕ) → BeginsEscaped rest octet after → ⊥)
    → (others : List ℕ) → IsEscaped text others → ⊥
not-IsEscaped text octets rest reads some none others is =
    let front = front_items reads.items is.items rest reads.are_items is.are_items (sym is.spelled ∙ reads.spelled) in
    stuck front.0 rest front.1 front.3 some none
  where
    stuck : (more : List EscapedItem) (rest : List ℕ) → AllByRecursion IsEscapedItem more → rest ≡ flat_map item_spelling more → 0 < length rest → ((octet : ℕ) (after : List ℕ) → BeginsEscaped rest octet after → ⊥) → ⊥
    stuck [] rest a e some none = omega (arith, ap length e)
    stuck (i ∷ more) rest a e some none = none (item_octet i) (flat_map item_spelling more) (record { item = i; is_item = a.0; spelled = e; octet_is = refl })

-- a text spells one list of octets
pub IsEscaped-once : (text a b : List ℕ) → IsEscaped text a → IsEscaped text b → a ≡ b
IsEscaped-once text a b p q =
    let front = front_items p.items q.items [] p.are_items q.are_items (sym q.spelled ∙ p.spelled ∙ sym (append-nil (flat_map item_spelling p.items))) in
    let none : front.0 ≡ [] = ended front.0 front.3 in
    let same : q.items ≡ p.items = front.2 ∙ rw (none, append-nil) refl in
    p.octets_are ∙ ap (map item_octet) (sym same) ∙ sym q.octets_are
  where
    ended : (items : List EscapedItem) → [] ≡ flat_map item_spelling items → items ≡ []
    ended [] e = refl
    ended (i ∷ items) e = absurd (no_items i (flat_map item_spelling items) (sym e))

-- texts that spell octets spell them one after the other
pub IsEscaped-append : (s t a b : List ℕ) → IsEscaped s a → IsEscaped t b → IsEscaped (s ++ t) (a ++ b)
IsEscaped-append s t a b p q = record {
  items = p.items ++ q.items;
  are_items = items_append p.items q.items p.are_items q.are_items;
  spelled = rw (flat_map-append item_spelling p.items q.items, p.spelled, q.spelled) refl;
  octets_are = rw (map-append item_octet p.items q.items, p.octets_are, q.octets_are) refl;
}

pub BeginsEscaped-plain : (text : List ℕ) (b : ℕ) (rest : List ℕ) → text ≡ b ∷ rest → b ≢ 37 → BeginsEscaped text b rest
BeginsEscaped-plain text b rest e x = record { item = Plain b; is_item = x; spelled = e; octet_is = refl }

pub BeginsEscaped-escape : (text after rest : List ℕ) (first high low h l : ℕ) → text ≡ first ∷ after → first ≡ 37 → after ≡ high ∷ low ∷ rest
    → digit_value high < 16 → digit_value high ≡ h → digit_value low < 16 → digit_value low ≡ l → BeginsEscaped text (16 * h + l) rest
BeginsEscaped-escape text after rest first high low h l e is f a b c d = record {
  item = Escape high low;
  is_item = (a, c);
  spelled = e ∙ rw (is, f) refl;
  octet_is = rw (b, d) refl;
}

-- an octet that is written is read back
digit_back : (d : ℕ) → d < 16 → digit_value (digit_glyph true d) ≡ d
digit_back d h = grind (arith, nat_tests)

not_percent : (x : ℕ) → is_attribute_octet x ≡ true → x ≢ 37
not_percent x t e = grind (arith, nat_tests)

halves : (x : ℕ) → x < 256 → x ≡ 16 * (x / 16 % 16) + x % 16
halves x h = omega arith

below : (p : ℕ) → p % 16 < 16
below p = omega arith

octet_back : (x : ℕ) → x < 256 → IsEscaped (escaped_octet x) (x ∷ [])
unfolding percent_encode_byte
octet_back x h = elim (cases_Bool (is_attribute_octet x)) [
  | inl t ↦ record { items = Plain x ∷ []; are_items = (not_percent x t, tt); spelled = cond-true _ _ _ t; octets_are = refl }
  | inr f ↦
      let high = digit_back (x / 16 % 16) (below (x / 16)) in
      let low = digit_back (x % 16) (below x) in
      let whole : x ≡ 16 * digit_value (digit_glyph true (x / 16 % 16)) + digit_value (digit_glyph true (x % 16)) = rw (high, low) (halves x h) in
      record {
        items = Escape (digit_glyph true (x / 16 % 16)) (digit_glyph true (x % 16)) ∷ [];
        are_items = ((rw high (below (x / 16)), rw low (below x)), tt);
        spelled = cond-false _ _ _ f;
        octets_are = ap (λ y. y ∷ []) whole;
      }
]

pub IsEscaped-escaped : (octets : List ℕ) → All (λ x. x < 256) octets → IsEscaped (escaped octets) octets
IsEscaped-escaped [] h = record { items = []; are_items = tt; spelled = refl; octets_are = refl }
IsEscaped-escaped (x ∷ xs) h =
    IsEscaped-append (escaped_octet x) (escaped xs) (x ∷ []) xs (octet_back x (All-head (λ x. x < 256) x xs h)) (IsEscaped-escaped xs (All-tail (λ x. x < 256) x xs h))

-- one octet more was put
pub escaped_step : (xs made new whole : List ℕ) (i : ℕ) → i < length xs → made ++ escaped (drop i xs) ≡ whole → new ≡ made ++ escaped_octet (get_or xs i 0)
    → new ++ escaped (drop (i + 1) xs) ≡ whole
escaped_step xs made new whole i l e pushed =
    rw (pushed, append_assoc made (escaped_octet (get_or xs i 0)) (escaped (drop (i + 1) xs))) (ap (λ r. made ++ escaped r) (sym (drop_more xs i 0 l)) ∙ e)

-- ---- lengths

pub octet_length-plain : (x : ℕ) → is_attribute_octet x ≡ true → length (escaped_octet x) ≡ 1
octet_length-plain x plain = ap length (cond-true _ _ _ plain)

pub octet_length-escape : (x : ℕ) → is_attribute_octet x ≡ false → length (escaped_octet x) ≡ 3
unfolding percent_encode_byte
octet_length-escape x other = ap length (cond-false _ _ _ other)
