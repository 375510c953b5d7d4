-- xtext is read unit by unit, in one way.
use Rattle.std.proofs.Common.{◌≡◌, ℕ, ◌+◌, ◌*◌, ◌/◌, ◌%◌, ◌<◌, ◌≤◌, Bool, true, false, ◌&&◌, not, nat_lt, cond, if◌then◌else◌, List, [], ◌∷◌, ◌++◌, length, map, count_by, leb, IsTrue, ◌↔◌, Option, Some, None, IfSome, Bor, Result, Ok, Err, OnOk, refl, sym, ap, ◌∙◌, arith}
use Rattle.std.proofs.lemmas.Bool.{both_ways, and_from, and_parts, ltb-true, leb-true, le-leb}
use Rattle.std.proofs.lemmas.Bool.Decides.{nat_tests}
use Rattle.std.proofs.lemmas.List.{append_assoc, append-nil, map-append, length-append}
use Rattle.std.proofs.lemmas.List.Concat.{flat_map-append}
use Rattle.std.proofs.lemmas.List.Sums.{sum_by-cons}
use Rattle.std.specs.List.{AllByRecursion, flat_map, list_all}
use Rattle.mail_wire.proofs.AllLemmas.{all-append, pass-append, pass-weaker}
use Rattle.encapsulated_fields.specs.AddressForms.{upper_digit, digit_at}
use Rattle.dsn_terms.specs.Xtexts.{is_xchar, XtextUnit, Xchar, Hexchar, IsXtextUnit, xtext_spelling, xtext_meaning, IsXtext, IsPrintableXtext, is_printable, shortest_unit, shortest_xtext, BeginsUnit, BeginsDigits}
use Rattle.dsn_terms.specs.TermTexts.{is_visible}

-- ---- what is read so far

-- the octets so far are those of the text before rest
pub record HasRead (text octets rest : List ℕ) : Type 0 where
  pub units : List XtextUnit
  pub are_units : AllByRecursion IsXtextUnit units
  pub spelled : text ≡ flat_map xtext_spelling units ++ rest
  pub octets_are : octets ≡ map xtext_meaning units

pub HasRead-push : (text octets rest after new : List ℕ) (octet : ℕ) → HasRead text octets rest → BeginsUnit rest octet after → new ≡ octets ++ octet ∷ [] → HasRead text new after
HasRead-push text octets rest after new octet reads begins pushed =
    let one : List XtextUnit = begins.unit ∷ [] in
    record {
      units = reads.units ++ one;
      are_units = all-append IsXtextUnit reads.units one reads.are_units (begins.is_unit, tt);
      spelled = reads.spelled ∙ rw (flat_map-append xtext_spelling reads.units one, append-nil, append_assoc) (ap (λ r. flat_map xtext_spelling reads.units ++ r) begins.spelled);
      octets_are = pushed ∙ rw (map-append xtext_meaning reads.units one, reads.octets_are, begins.octet_is) refl;
    }

-- ---- no unit begins another

upper-once : (d e : ℕ) → d < 16 → e < 16 → upper_digit d ≡ upper_digit e → d ≡ e
upper-once d e p q same = grind (arith, nat_tests)

pub octet-once : (a b : ℕ) → a < 256 → b < 256 → digit_at 16 a ≡ digit_at 16 b → digit_at 1 a ≡ digit_at 1 b → a ≡ b
octet-once a b p q high low =
    let h = upper-once (a / 16 % 16) (b / 16 % 16) (below (a / 16)) (below (b / 16)) high in
    let l = upper-once (a / 1 % 16) (b / 1 % 16) (below (a / 1)) (below (b / 1)) low in
    omega arith
  where
    below : (p : ℕ) → p % 16 < 16
    below p = omega arith

no_plus : (x : ℕ) → is_xchar x ≡ true → x ≡ 43 → ⊥
no_plus x is e = both_ways (is_xchar x) (ap is_xchar e) is

unit_once : (i j : XtextUnit) (x y : List ℕ) → IsXtextUnit i → IsXtextUnit j → xtext_spelling i ++ x ≡ xtext_spelling j ++ y → (i ≡ j) × (x ≡ y)
unit_once (Xchar a) (Xchar b) x y p q e =
    let head : a ≡ b = cc e in
    let tail : x ≡ y = cc e in
    (ap Xchar head, tail)
unit_once (Xchar a) (Hexchar b) x y p q e = absurd (no_plus a p (cc e))
unit_once (Hexchar a) (Xchar b) x y p q e = absurd (no_plus b q (cc e))
unit_once (Hexchar a) (Hexchar b) x y p q e =
    let high : digit_at 16 a ≡ digit_at 16 b = cc e in
    let low : digit_at 1 a ≡ digit_at 1 b = cc e in
    let tail : x ≡ y = cc e in
    (ap Hexchar (octet-once a b p q high low), tail)

no_units : (i : XtextUnit) (x : List ℕ) → xtext_spelling i ++ x ≡ [] → ⊥
no_units (Xchar a) x e = omega (arith, ap length e)
no_units (Hexchar a) x e = omega (arith, ap length e)

-- what is read so far is a front of any reading
front_units : (xs ys : List XtextUnit) (rest : List ℕ) → AllByRecursion IsXtextUnit xs → AllByRecursion IsXtextUnit ys → flat_map xtext_spelling ys ≡ flat_map xtext_spelling xs ++ rest
    → (more : List XtextUnit) × AllByRecursion IsXtextUnit more × (ys ≡ xs ++ more) × (rest ≡ flat_map xtext_spelling more)
front_units [] ys rest a b e = (ys, b, refl, sym e)
front_units (x ∷ xs) [] rest a b e = absurd (no_units x (flat_map xtext_spelling xs ++ rest) (sym (append_assoc (xtext_spelling x) (flat_map xtext_spelling xs) rest) ∙ sym e))
front_units (x ∷ xs) (y ∷ ys) rest a b e =
    let whole : xtext_spelling y ++ flat_map xtext_spelling ys ≡ xtext_spelling x ++ (flat_map xtext_spelling xs ++ rest) = e ∙ append_assoc (xtext_spelling x) (flat_map xtext_spelling xs) rest in
    let once = unit_once y x (flat_map xtext_spelling ys) (flat_map xtext_spelling xs ++ rest) b.0 a.0 whole in
    let r = front_units xs ys rest a.1 b.1 once.1 in
    let head : y ≡ x = once.0 in
    let tail : ys ≡ xs ++ r.0 = r.2 in
    (r.0, r.1, cc, r.3)

-- where nothing begins what is left, the whole is no xtext
pub not-IsXtext : (text octets rest : List ℕ) → HasRead text octets rest → 0 < length rest → ((octet : ℕ) (after : List ℕ) → BeginsUnit rest octet after → ⊥)
    → (other : List ℕ) → IsXtext text other → ⊥
not-IsXtext text octets rest reads some none other is =
    let front = front_units reads.units is.units rest reads.are_units is.are_units (sym is.spelled ∙ reads.spelled) in
    stuck front.0 rest front.1 front.3 some none
  where
    stuck : (more : List XtextUnit) (rest : List ℕ) → AllByRecursion IsXtextUnit more → rest ≡ flat_map xtext_spelling more → 0 < length rest
        → ((octet : ℕ) (after : List ℕ) → BeginsUnit rest octet after → ⊥) → ⊥
    stuck [] rest a e some none = omega (arith, ap length e)
    stuck (i ∷ more) rest a e some none = none (xtext_meaning i) (flat_map xtext_spelling more) (record { unit = i; is_unit = a.0; spelled = e; octet_is = refl })

-- a text is xtext of one list of octets
pub IsXtext-once : (text octets other : List ℕ) → IsXtext text octets → IsXtext text other → octets ≡ other
IsXtext-once text octets other p q =
    let front = front_units p.units q.units [] p.are_units q.are_units (sym q.spelled ∙ p.spelled ∙ sym (append-nil (flat_map xtext_spelling p.units))) in
    let none : front.0 ≡ [] = ended front.0 front.3 in
    let same : q.units ≡ p.units = front.2 ∙ rw (none, append-nil) refl in
    p.octets_are ∙ ap (λ us. map xtext_meaning us) (sym same) ∙ sym q.octets_are
  where
    ended : (units : List XtextUnit) → [] ≡ flat_map xtext_spelling units → units ≡ []
    ended [] e = refl
    ended (i ∷ units) e = absurd (no_units i (flat_map xtext_spelling units) (sym e))

-- ---- the first octet decides what a text begins with

pub BeginsUnit-plain : (text rest : List ℕ) (x : ℕ) → text ≡ x ∷ rest → is_xchar x ≡ true → BeginsUnit text x rest
BeginsUnit-plain text rest x e is = record { unit = Xchar x; is_unit = is; spelled = e; octet_is = refl }

BeginsUnit-digits : (text after rest : List ℕ) (first octet : ℕ) → text ≡ first ∷ after → first ≡ 43 → BeginsDigits after octet rest → BeginsUnit text octet rest
BeginsUnit-digits text after rest first octet e plus begins = record {
  unit = Hexchar octet;
  is_unit = begins.small;
  spelled = e ∙ rw (plus, begins.spelled) refl;
  octet_is = refl;
}

pub BeginsUnit-after_plus : (found : Option (ℕ × Bor (List ℕ))) (text after : List ℕ) (first : ℕ) → text ≡ first ∷ after → first ≡ 43 → IfSome found (λ x. BeginsDigits after x.0 x.1.now) → IfSome found (λ x. BeginsUnit text x.0 x.1.now)
BeginsUnit-after_plus None text after first e plus begins = tt
BeginsUnit-after_plus (Some x) text after first e plus begins = BeginsUnit-digits text after x.1.now first x.0 e plus begins

pub BeginsUnit-shortens : (text rest : List ℕ) (octet : ℕ) → BeginsUnit text octet rest → length rest < length text
BeginsUnit-shortens text rest octet is = by is.unit is.spelled
  where
    by : (unit : XtextUnit) → text ≡ xtext_spelling unit ++ rest → length rest < length text
    by (Xchar x) e = omega (arith, ap length e)
    by (Hexchar x) e = omega (arith, ap length e)

-- ---- two digits

-- what is put last for an octet is its two digits
pub digits-pushed : {T E : Type 0} (put : Result T E) (octet high low : ℕ) (start a b new : List ℕ) → octet < 256 → high ≡ upper_digit (octet / 16) → low ≡ upper_digit (octet % 16)
    → a ≡ start ++ 43 ∷ [] → b ≡ a ++ high ∷ [] → OnOk put (new ≡ b ++ low ∷ []) → OnOk put (new ≡ start ++ 43 ∷ digit_at 16 octet ∷ digit_at 1 octet ∷ [])
digits-pushed (Err x) octet high low start a b new small first second p q last = tt
digits-pushed (Ok x) octet high low start a b new small first second p q last =
    let above : octet / 16 ≡ octet / 16 % 16 = omega arith in
    let below : octet % 16 ≡ octet / 1 % 16 = omega arith in
    last ∙ ap (λ t. t ++ low ∷ []) (q ∙ ap (λ t. t ++ high ∷ []) p) ∙ joined start high low
    ∙ ap (λ d. start ++ 43 ∷ d ∷ low ∷ []) (first ∙ ap upper_digit above) ∙ ap (λ d. start ++ 43 ∷ digit_at 16 octet ∷ d ∷ []) (second ∙ ap upper_digit below)
  where
    joined : (start : List ℕ) (x y : ℕ) → start ++ 43 ∷ [] ++ x ∷ [] ++ y ∷ [] ≡ start ++ 43 ∷ x ∷ y ∷ []
    joined start x y = append_assoc (start ++ 43 ∷ []) (x ∷ []) (y ∷ []) ∙ append_assoc start (43 ∷ []) (x ∷ y ∷ [])

-- ---- the shortest xtext

spells-shortest : (x : ℕ) (b : Bool) → is_xchar x ≡ b → x < 256 → (text octets : List ℕ) → IsXtext text octets → IsXtext ((if b then x ∷ [] else xtext_spelling (Hexchar x)) ++ text) (x ∷ octets)
spells-shortest x true is small text octets reads = record {
  units = Xchar x ∷ reads.units;
  are_units = (is, reads.are_units);
  spelled = ap (λ t. x ∷ t) reads.spelled;
  octets_are = ap (λ t. x ∷ t) reads.octets_are;
}
spells-shortest x false is small text octets reads = record {
  units = Hexchar x ∷ reads.units;
  are_units = (small, reads.are_units);
  spelled = ap (λ t. xtext_spelling (Hexchar x) ++ t) reads.spelled;
  octets_are = ap (λ t. x ∷ t) reads.octets_are;
}

-- the shortest xtext of octets is xtext of them
pub IsXtext-shortest : (octets : List ℕ) → list_all (λ x. nat_lt x 256) octets ≡ true → IsXtext (shortest_xtext octets) octets
IsXtext-shortest [] all = record { units = []; are_units = tt; spelled = refl; octets_are = refl }
IsXtext-shortest (x ∷ octets) all =
    let parts = and_parts (nat_lt x 256) (list_all (λ x. nat_lt x 256) octets) all in
    spells-shortest x (is_xchar x) refl (ltb-true x 256 parts.0) (shortest_xtext octets) octets (IsXtext-shortest octets parts.1)

length-unit : (unit : XtextUnit) → IsXtextUnit unit → length (shortest_unit (xtext_meaning unit)) ≤ length (xtext_spelling unit)
length-unit (Xchar x) is = rw is (omega arith)
length-unit (Hexchar x) is = by (is_xchar x)
  where
    by : (b : Bool) → length (if b then x ∷ [] else xtext_spelling (Hexchar x)) ≤ 3
    by true = omega arith
    by false = omega arith

length-units : (units : List XtextUnit) → AllByRecursion IsXtextUnit units → length (shortest_xtext (map xtext_meaning units)) ≤ length (flat_map xtext_spelling units)
length-units [] are = omega arith
length-units (u ∷ units) are =
    omega (
      arith,
      length-unit u are.0,
      length-units units are.1,
      length-append (shortest_unit (xtext_meaning u)) (shortest_xtext (map xtext_meaning units)),
      length-append (xtext_spelling u) (flat_map xtext_spelling units),
    )

-- no xtext of the same octets is shorter
pub length-shortest-le : (text octets : List ℕ) → IsXtext text octets → length (shortest_xtext octets) ≤ length text
length-shortest-le text octets is =
    let bound = length-units is.units is.are_units in
    rw (is.spelled, is.octets_are) bound

-- how long it is
pub length-shortest : (octets : List ℕ) → length (shortest_xtext octets) ≡ length octets + 2 * count_by (λ x. not (is_xchar x)) octets
length-shortest [] = refl
length-shortest (x ∷ octets) =
    let count = sum_by-cons (λ x. cond (not (is_xchar x)) 1 0) x octets in
    let size = length-append (shortest_unit x) (shortest_xtext octets) in
    let one = by (is_xchar x) in
    omega (arith, length-shortest octets)
  where
    by : (b : Bool) → length (if b then x ∷ [] else xtext_spelling (Hexchar x)) ≡ 1 + 2 * cond (not b) 1 0
    by true = refl
    by false = refl

pub fits-iff : (octets : List ℕ) (most count : ℕ) → count ≡ count_by (λ x. not (is_xchar x)) octets → IsTrue (leb (length octets + 2 * count) most) ↔ (length (shortest_xtext octets) ≤ most)
fits-iff octets most count e = (
  λ t. omega (arith, length-shortest octets, e, leb-true (length octets + 2 * count) most t),
  λ small. le-leb (length octets + 2 * count) most (omega (arith, length-shortest octets, e, small)),
)

pub length-shortest-some : (octets : List ℕ) → length octets ≤ length (shortest_xtext octets)
length-shortest-some octets = omega (arith, length-shortest octets)

-- it is visible
visible-upper : (d : ℕ) → d < 16 → is_visible (upper_digit d) ≡ true
visible-upper d h = grind (arith, nat_tests)

visible-at : (weight n : ℕ) → is_visible (digit_at weight n) ≡ true
visible-at weight n = visible-upper (n / weight % 16) (below (n / weight))
  where
    below : (p : ℕ) → p % 16 < 16
    below p = omega arith

visible-unit : (x : ℕ) (b : Bool) → is_xchar x ≡ b → list_all is_visible (if b then x ∷ [] else xtext_spelling (Hexchar x)) ≡ true
visible-unit x true is =
    let parts = and_parts (is_visible x) _ is in
    and_from (is_visible x) true parts.0 refl
visible-unit x false is = and_from (is_visible (digit_at 16 x)) (is_visible (digit_at 1 x) && true) (visible-at 16 x) (and_from (is_visible (digit_at 1 x)) true (visible-at 1 x) refl)

pub visible-shortest : (octets : List ℕ) → list_all is_visible (shortest_xtext octets) ≡ true
visible-shortest [] = refl
visible-shortest (x ∷ octets) = pass-append is_visible (shortest_unit x) (shortest_xtext octets) (visible-unit x (is_xchar x) refl) (visible-shortest octets)

-- printable octets are octets
pub printable-octets : (octets : List ℕ) → list_all is_printable octets ≡ true → list_all (λ x. nat_lt x 256) octets ≡ true
printable-octets octets all = pass-weaker is_printable (λ x. nat_lt x 256) small octets all
  where
    small : (x : ℕ) → is_printable x ≡ true → nat_lt x 256 ≡ true
    small x h = grind (arith, nat_tests)

pub IsPrintableXtext-shortest : (octets : List ℕ) → list_all is_printable octets ≡ true → IsPrintableXtext (shortest_xtext octets) octets
IsPrintableXtext-shortest octets all = record { reads = IsXtext-shortest octets (printable-octets octets all); printable = all }

-- ---- what isn't printable xtext

pub not-Printable-none : (text : List ℕ) → ((octets : List ℕ) → IsXtext text octets → ⊥) → (octets : List ℕ) → IsPrintableXtext text octets → ⊥
not-Printable-none text none octets is = none octets is.reads

pub not-Printable : (text octets shown : List ℕ) → IsXtext text octets → shown ≡ octets → list_all is_printable shown ≡ false → (other : List ℕ) → IsPrintableXtext text other → ⊥
not-Printable text octets shown reads same not_all other is =
    let one : other ≡ shown = IsXtext-once text other octets is.reads reads ∙ sym same in
    both_ways (list_all is_printable shown) not_all (sym (ap (list_all is_printable) one) ∙ is.printable)
