-- A Q text is read item by item, in one way.
use Rattle.std.proofs.Common.{◌≡◌, ◌≢◌, ℕ, ◌+◌, ◌*◌, ◌<◌, ◌≤◌, List, [], ◌∷◌, ◌++◌, length, map, refl, sym, ap, ◌∙◌, arith, get_or, take, drop, ◌-◌, ◌⊎◌, inl, inr, Result, Ok, Err, Option, Some, None, IfOk}
use Rattle.std.proofs.lemmas.List.{append_assoc, append-nil, map-append, take_rest}
use Rattle.std.proofs.lemmas.List.Concat.{flat_map-append}
use Rattle.std.specs.Char.{digit_value, to_ascii_uppercase}
use Rattle.std.specs.Prelude.{IfNone}
use Rattle.std.specs.List.{AllByRecursion, flat_map}
use Rattle.encoded_words.specs.Words.{QItem, Space, Escape, Plain, IsQItem, q_spelling, q_octet, IsQText, IsTextOf, BeginsQ}

-- the octets so far are those of the text before rest
pub record ReadsQ (text octets rest : List ℕ) : Type 0 where
  pub items : List QItem
  pub are_items : AllByRecursion IsQItem items
  pub spelled : text ≡ flat_map q_spelling items ++ rest
  pub octets_are : octets ≡ map q_octet items

items_append : (xs ys : List QItem) → AllByRecursion IsQItem xs → AllByRecursion IsQItem ys → AllByRecursion IsQItem (xs ++ ys)
items_append [] ys a b = b
items_append (x ∷ xs) ys a b = (a.0, items_append xs ys a.1 b)

pub ReadsQ-none : (text : List ℕ) → ReadsQ text [] text
ReadsQ-none text = record { items = []; are_items = tt; spelled = refl; octets_are = refl }

pub ReadsQ-push : (text octets rest after new : List ℕ) (octet : ℕ) → ReadsQ text octets rest → BeginsQ rest octet after → new ≡ octets ++ octet ∷ [] → ReadsQ text new after
ReadsQ-push text octets rest after new octet reads begins pushed =
    let one : List QItem = begins.item ∷ [] in
    record {
      items = reads.items ++ one;
      are_items = items_append reads.items one reads.are_items (begins.is_item, tt);
      spelled = reads.spelled ∙ rw (flat_map-append q_spelling reads.items one, append-nil, append_assoc) (ap (λ r. flat_map q_spelling reads.items ++ r) begins.spelled);
      octets_are = rw (pushed, map-append q_octet reads.items one, reads.octets_are, begins.octet_is) refl;
    }

pub IsQText-read : (text octets rest : List ℕ) → ReadsQ text octets rest → rest ≡ [] → IsQText text octets
IsQText-read text octets rest reads end = (reads.items, reads.are_items, reads.spelled ∙ rw (end, append-nil) refl, reads.octets_are)

-- no item begins another
pub item_once : (i j : QItem) (x y : List ℕ) → IsQItem i → IsQItem j → q_spelling i ++ x ≡ q_spelling j ++ y → (i ≡ j) × (x ≡ y)
item_once Space Space x y a b e = (refl, cc e)
item_once Space (Escape h l) x y a b e = let w : ◌≡◌ {A = ℕ} 95 61 = cc e in absurd (omega arith)
item_once Space (Plain c) x y a b e = absurd (b.1 (cc e))
item_once (Escape h l) Space x y a b e = let w : ◌≡◌ {A = ℕ} 61 95 = cc e in absurd (omega arith)
item_once (Escape h l) (Escape k m) x y a b e = (cc e, cc e)
item_once (Escape h l) (Plain c) x y a b e = absurd (b.0 (cc e))
item_once (Plain c) Space x y a b e = absurd (a.1 (cc e))
item_once (Plain c) (Escape h l) x y a b e = absurd (a.0 (cc e))
item_once (Plain c) (Plain d) x y a b e = (cc e, cc e)

pub no_items : (i : QItem) (x : List ℕ) → q_spelling i ++ x ≡ [] → ⊥
no_items Space x e = cc e
no_items (Escape h l) x e = cc e
no_items (Plain c) x e = cc e

-- what is read so far is a front of any reading
front_items : (xs ys : List QItem) (rest : List ℕ) → AllByRecursion IsQItem xs → AllByRecursion IsQItem ys → flat_map q_spelling ys ≡ flat_map q_spelling xs ++ rest
    → (more : List QItem) × AllByRecursion IsQItem more × (ys ≡ xs ++ more) × (rest ≡ flat_map q_spelling more)
front_items [] ys rest a b e = (ys, b, refl, sym e)
front_items (x ∷ xs) [] rest a b e = absurd (no_items x (flat_map q_spelling xs ++ rest) (rw append_assoc at (sym e)))
front_items (x ∷ xs) (y ∷ ys) rest a b e =
    let whole : q_spelling y ++ flat_map q_spelling ys ≡ q_spelling x ++ (flat_map q_spelling xs ++ rest) = rw append_assoc at e in
    let once = item_once y x (flat_map q_spelling ys) (flat_map q_spelling xs ++ rest) b.0 a.0 whole in
    let r = front_items xs ys rest a.1 b.1 once.1 in
    let head : y ≡ x = once.0 in
    let tail : ys ≡ xs ++ r.0 = r.2 in
    (r.0, r.1, cc, r.3)

-- where nothing begins what is left, the whole is no Q text
pub not-IsQText : (text octets rest : List ℕ) → ReadsQ text octets rest → 0 < length rest → ((octet : ℕ) (after : List ℕ) → BeginsQ rest octet after → ⊥)
    → (others : List ℕ) → IsQText text others → ⊥
not-IsQText text octets rest reads some none others is =
    let front = front_items reads.items is.0 rest reads.are_items is.1 (sym is.2 ∙ reads.spelled) in
    stuck front.0 rest front.1 front.3 some none
  where
    stuck : (more : List QItem) (rest : List ℕ) → AllByRecursion IsQItem more → rest ≡ flat_map q_spelling more → 0 < length rest → ((octet : ℕ) (after : List ℕ) → BeginsQ rest octet after → ⊥) → ⊥
    stuck [] rest a e some none = omega (arith, ap length e)
    stuck (i ∷ more) rest a e some none = none (q_octet i) (flat_map q_spelling more) (record { item = i; is_item = a.0; spelled = e; octet_is = refl })

-- a Q text spells one list of octets
pub IsQText-once : (text a b : List ℕ) → IsQText text a → IsQText text b → a ≡ b
IsQText-once text a b p q =
    let front = front_items p.0 q.0 [] p.1 q.1 (sym q.2 ∙ p.2 ∙ sym (append-nil (flat_map q_spelling p.0))) in
    let none : front.0 ≡ [] = ended front.0 front.3 in
    let same : q.0 ≡ p.0 = front.2 ∙ rw (none, append-nil) refl in
    p.3 ∙ ap (map q_octet) (sym same) ∙ sym q.3
  where
    ended : (items : List QItem) → [] ≡ flat_map q_spelling items → items ≡ []
    ended [] e = refl
    ended (i ∷ items) e = absurd (no_items i (flat_map q_spelling items) (sym e))

-- a text that begins with this octet, as a slice pattern gives its parts
pub first_is : (text : List ℕ) → 1 ≤ length text → text ≡ get_or text 0 0 ∷ take (length text - 1) (drop 1 text)
first_is [] h = absurd (omega arith)
first_is (b ∷ bs) h = ap (λ r. b ∷ r) (sym (take_rest (b ∷ bs) 1))

pub BeginsQ-plain : (text : List ℕ) (b : ℕ) (rest : List ℕ) → text ≡ b ∷ rest → b ≢ 61 → b ≢ 95 → BeginsQ text b rest
BeginsQ-plain text b rest e x y = record { item = Plain b; is_item = (x, y); spelled = e; octet_is = refl }

pub BeginsQ-escape : (text after rest : List ℕ) (first high low h l : ℕ) → text ≡ first ∷ after → first ≡ 61 → after ≡ high ∷ low ∷ rest
    → digit_value high < 16 → digit_value high ≡ h → digit_value low < 16 → digit_value low ≡ l → BeginsQ text (16 * h + l) rest
BeginsQ-escape text after rest first high low h l e is f a b c d = record {
  item = Escape high low;
  is_item = (a, c);
  spelled = e ∙ rw (is, f) refl;
  octet_is = rw (b, d) refl;
}

pub second_is : (text : List ℕ) → 2 ≤ length text → text ≡ get_or text 0 0 ∷ get_or text 1 0 ∷ take (length text - 2) (drop 2 text)
second_is [] h = absurd (omega arith)
second_is (b ∷ []) h = absurd (omega arith)
second_is (b ∷ d ∷ bs) h = ap (λ r. b ∷ d ∷ r) (sym (take_rest (b ∷ d ∷ bs) 2))

-- a text after the letter Q is a Q text
pub not-IsTextOf-q : (letter : ℕ) (text octets : List ℕ) → (letter ≡ 81) ⊎ (letter ≡ 113) → (IsQText text octets → ⊥) → IsTextOf letter text octets → ⊥
not-IsTextOf-q letter text octets is none (inl b) = elim is [ inl e ↦ clash (ap to_ascii_uppercase (sym e) ∙ b.0) | inr e ↦ clash (ap to_ascii_uppercase (sym e) ∙ b.0) ]
  where
    clash : ◌≡◌ {A = ℕ} 81 66 → ⊥
    clash e = omega (arith, e)
not-IsTextOf-q letter text octets is none (inr q) = none q.1

pub none_of_q : {E : Type 0} {V : Type 0} (letter : ℕ) (text : List ℕ) (r : Result (Option V) E) → (letter ≡ 81) ⊎ (letter ≡ 113)
    → IfOk r (λ o. IfNone o ((octets : List ℕ) → ¬ IsQText text octets)) → IfOk r (λ o. IfNone o ((octets : List ℕ) → ¬ IsTextOf letter text octets))
none_of_q letter text (Ok None) is h = λ octets. not-IsTextOf-q letter text octets is (h octets)
none_of_q letter text (Ok (Some v)) is h = tt
none_of_q letter text (Err e) is h = tt
