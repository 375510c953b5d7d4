-- Parts in the slots of their numbers.
use Rattle.std.proofs.Common.{◌≡◌, ℕ, ◌+◌, ◌<◌, ◌==◌, true, false, List, [], ◌∷◌, ◌++◌, length, map, take, Option, Some, None, get_or, set, drop, refl, sym, ap, ◌∙◌, subst, inl, inr, arith}
use Rattle.std.specs.Prelude.{zero, suc, is_some}
use Rattle.std.specs.List.{flat_map}
use Rattle.std.proofs.lemmas.Bool.{cases_eq}
use Rattle.std.proofs.lemmas.List.{length-set, get_or-set_same, get_or-set_other, append-nil, append_assoc, map-append, take_more, take-append-drop, drop_more, get_or_default, length-map}
use Rattle.std.proofs.lemmas.List.Elements.{filter-append}
use Rattle.param_grammar.specs.declared.Piece.{Piece}
use Rattle.param_grammar.specs.Extended.{unit_of}
use Rattle.param_grammar.specs.Joining.{AreNumbered, first_parts, has_number, joined_unit, numbered}
use Rattle.param_grammar.specs.private.Slots.{AreSlots, HoldBelow, slot_pieces}

module _ (at : ℕ → Piece) where
  pub free_push : (slots : List (Option ℕ)) → ((n : ℕ) → get_or slots n None ≡ None) → (n : ℕ) → get_or (slots ++ None ∷ []) n None ≡ None
  free_push [] free zero = refl
  free_push [] free (suc n) = refl
  free_push (o ∷ slots) free zero = free zero
  free_push (o ∷ slots) free (suc n) = free_push slots (λ m. free (suc m)) n

  pub empty_slots : (count : ℕ) (slots : List (Option ℕ)) → length slots ≡ count → ((n : ℕ) → get_or slots n None ≡ None) → AreSlots at count [] slots
  empty_slots count slots e free = record { count_is = e; hold = λ n l. ap (slot_pieces at) (sym (free n)) }

  one : (n : ℕ) (piece : Piece) → has_number n piece ≡ true → numbered n (piece ∷ []) ≡ piece ∷ []
  one n piece e = rw e refl

  none : (n : ℕ) (piece : Piece) → has_number n piece ≡ false → numbered n (piece ∷ []) ≡ []
  none n piece e = rw e refl

  pub one_more : (n : ℕ) (parts : List Piece) (piece : Piece) → has_number n piece ≡ true → numbered n (parts ++ piece ∷ []) ≡ numbered n parts ++ piece ∷ []
  one_more n parts piece e = filter-append (has_number n) parts (piece ∷ []) ∙ ap (λ xs. numbered n parts ++ xs) (one n piece e)

  pub no_more : (n : ℕ) (parts : List Piece) (piece : Piece) → has_number n piece ≡ false → numbered n (parts ++ piece ∷ []) ≡ numbered n parts
  no_more n parts piece e = filter-append (has_number n) parts (piece ∷ []) ∙ ap (λ xs. numbered n parts ++ xs) (none n piece e) ∙ append-nil (numbered n parts)

  pub AreSlots-skip : (count : ℕ) (parts : List Piece) (piece : Piece) (slots : List (Option ℕ)) → AreSlots at count parts slots → ((n : ℕ) → n < count → has_number n piece ≡ false)
      → AreSlots at count (parts ++ piece ∷ []) slots
  AreSlots-skip count parts piece slots are other = record { count_is = are.count_is; hold = λ n l. no_more n parts piece (other n l) ∙ are.hold n l }

  pub self : (n : ℕ) → (n == n) ≡ true
  self n = grind arith

  apart : (m n : ℕ) → (n ≡ m → ⊥) → (m == n) ≡ false
  apart m n d = grind (arith, d)

  was_empty : (o : Option ℕ) → is_some o ≡ false → slot_pieces at o ≡ []
  was_empty None e = refl
  was_empty (Some r) e = absurd cc

  pub AreSlots-put : (count number : ℕ) (parts : List Piece) (reference : ℕ) (slots : List (Option ℕ)) → AreSlots at count parts slots → number < count
      → is_some (get_or slots number None) ≡ false → ((n : ℕ) → n < count → has_number n (at reference) ≡ (number == n))
      → AreSlots at count (parts ++ at reference ∷ []) (set slots number (Some reference))
  AreSlots-put count number parts reference slots are below free is = record {
    count_is = length-set slots number (Some reference) ∙ are.count_is;
    hold = λ n l. elim (cases_eq n number) [
      | inl same ↦
          let here : numbered number parts ≡ [] = are.hold number below ∙ was_empty _ free in
          rw same (
          one_more number parts (at reference) (is number below ∙ self number) ∙ ap (λ xs. xs ++ at reference ∷ []) here
          ∙ ap (slot_pieces at) (sym (get_or-set_same slots number (Some reference) None (subst (λ c. number < c) (sym are.count_is) below)))
          )
      | inr other ↦
          no_more n parts (at reference) (is n l ∙ apart number n other) ∙ are.hold n l
          ∙ ap (slot_pieces at) (sym (get_or-set_other slots number n (Some reference) None other))
    ];
  }

  two : (xs ys : List Piece) (x y part : Piece) → xs ≡ x ∷ [] → xs ++ y ∷ ys ≡ part ∷ [] → ⊥
  two xs ys x y part e f =
      let g : x ∷ y ∷ ys ≡ part ∷ [] = ap (λ zs. zs ++ y ∷ ys) (sym e) ∙ f in
      absurd cc

  holds_one : (o : Option ℕ) → is_some o ≡ true → (piece : Piece) × (slot_pieces at o ≡ piece ∷ [])
  holds_one None e = absurd cc
  holds_one (Some r) e = (at r, refl)

  -- a number that stands at two parts
  pub twice : (all parts following : List Piece) (piece : Piece) (slots : List (Option ℕ)) (number count : ℕ) → count ≡ length all → all ≡ parts ++ piece ∷ following → AreSlots at count parts slots
      → number < count → is_some (get_or slots number None) ≡ true → has_number number piece ≡ true → AreNumbered all → ⊥
  twice all parts following piece slots number count counted cut are below full is numbers =
      let first = holds_one _ full in
      let both : numbered number all ≡ numbered number parts ++ numbered number (piece ∷ following) = ap (numbered number) cut ∙ filter-append (has_number number) parts (piece ∷ following) in
      let here : numbered number (piece ∷ following) ≡ piece ∷ numbered number following = rw is refl in
      let only = numbers number (subst (λ c. number < c) counted below) in
      two (numbered number parts) (numbered number following) first.0 piece only.0 (are.hold number below ∙ first.1)
      (sym (both ∙ ap (λ xs. numbered number parts ++ xs) here) ∙ only.1)

  free_slot : (all : List Piece) (slots : List (Option ℕ)) (n : ℕ) → AreSlots at (length all) all slots → n < length all → get_or slots n None ≡ None → AreNumbered all → ⊥
  free_slot all slots n are below free numbers =
      let only = numbers n below in
      let e : [] ≡ only.0 ∷ [] = sym (are.hold n below ∙ ap (slot_pieces at) free) ∙ only.1 in
      absurd cc

  -- what was read of the slots is in the slot
  in_slot : (slots items : List (Option ℕ)) (i : ℕ) (d p : Option ℕ) → items ≡ slots → i < length items → get_or items i d ≡ p → get_or slots i None ≡ p
  in_slot slots items i d p same l is = ap (λ s. get_or s i None) (sym same) ∙ get_or_default items i None d l ∙ is

  pub full_at : (slots : List (Option ℕ)) (i : ℕ) (o : Option ℕ) → i < length slots → o ≡ get_or slots i o → is_some o ≡ true → is_some (get_or slots i None) ≡ true
  full_at slots i o l got full = ap is_some (get_or_default slots i None o l ∙ sym got) ∙ full

  below_count : (all : List Piece) (slots items : List (Option ℕ)) (i count : ℕ) → count ≡ length all → AreSlots at count all slots → items ≡ slots → i < length items → i < length all
  below_count all slots items i count counted are same l = subst (λ c. i < c) (ap length same ∙ are.count_is ∙ counted) l

  pub free_at : (all : List Piece) (slots items : List (Option ℕ)) (i count : ℕ) (d : Option ℕ) → count ≡ length all → AreSlots at count all slots → items ≡ slots → i < length items
      → get_or items i d ≡ None → AreNumbered all → ⊥
  free_at all slots items i count d counted are same l is =
      free_slot all slots i (subst (λ c. AreSlots at c all slots) counted are) (below_count all slots items i count counted are same l) (in_slot slots items i d None same l is)

  -- The parts of the numbers below n are made, each once.
  pub record AreMade (n : ℕ) (all made : List Piece) : Type 0 where
    pub made_are : made ≡ first_parts n all
    pub each : (m : ℕ) → m < n → (part : Piece) × (numbered m all ≡ part ∷ [])

  pub AreMade-none : (all : List Piece) → AreMade 0 all []
  AreMade-none all = record { made_are = refl; each = λ m l. absurd (omega (arith, l)) }

  AreMade-push : (n : ℕ) (all made : List Piece) (slots : List (Option ℕ)) (reference : ℕ) → AreMade n all made → AreSlots at (length all) all slots → n < length all
      → get_or slots n None ≡ Some reference → AreMade (suc n) all (made ++ at reference ∷ [])
  AreMade-push n all made slots reference are fill below is =
      let here : numbered n all ≡ at reference ∷ [] = fill.hold n below ∙ ap (slot_pieces at) is in
      record {
        made_are = ap (λ xs. xs ++ at reference ∷ []) are.made_are ∙ ap (λ xs. first_parts n all ++ xs) (sym here);
        each = λ m l. elim (cases_eq m n) [
          | inl same ↦ (at reference, ap (λ k. numbered k all) same ∙ here)
          | inr other ↦ are.each m (omega (arith, l, other))
        ];
      }

  pub made_at : (all : List Piece) (made new : List ℕ) (slots items : List (Option ℕ)) (i count : ℕ) (d : Option ℕ) (part : ℕ) → count ≡ length all
      → AreSlots at count all slots → items ≡ slots → i < length items → get_or items i d ≡ Some part → new ≡ made ++ part ∷ [] → AreMade i all (map at made)
      → AreMade (i + 1) all (map at new)
  made_at all made new slots items i count d part counted are same l is put before =
      let grown : map at new ≡ map at made ++ at part ∷ [] = ap (map at) put ∙ map-append at made (part ∷ []) in
      let next : suc i ≡ i + 1 = omega arith in
      let turn = AreMade-push i all (map at made) slots part before (subst (λ c. AreSlots at c all slots) counted are) (below_count all slots items i count counted are same l)
      (in_slot slots items i d (Some part) same l is) in
      subst (λ n. AreMade n all (map at new)) next (subst (λ ps. AreMade (suc i) all ps) (sym grown) turn)

  begins : (all : List Piece) (k : ℕ) → (more : List Piece) × (first_parts (suc k) all ≡ numbered 0 all ++ more)
  begins all zero = ([], sym (append-nil (numbered 0 all)))
  begins all (suc k) =
      let before = begins all k in
      (before.0 ++ numbered (suc k) all, ap (λ xs. xs ++ numbered (suc k) all) before.1 ∙ append_assoc (numbered 0 all) before.0 (numbered (suc k) all))

  first_made : (all : List Piece) (n : ℕ) → length all ≡ n → AreNumbered all → numbered 0 all ≡ take 1 (first_parts n all)
  first_made [] zero e numbers = refl
  first_made (p ∷ ps) zero e numbers = absurd (omega (arith, e))
  first_made all (suc k) e numbers =
      let only = numbers 0 (omega (arith, e)) in
      let start = begins all k in
      only.1 ∙ ap (take 1) (sym (start.1 ∙ ap (λ xs. xs ++ start.0) only.1))

  -- the charset of number 0
  pub first_charset : (all made : List Piece) → AreNumbered all → made ≡ first_parts (length all) all
      → flat_map (λ (part : Piece). part.charset) (take 1 made) ≡ flat_map (λ (part : Piece). part.charset) (numbered 0 all)
  first_charset all made numbers e = ap (λ xs. flat_map (λ (part : Piece). part.charset) (take 1 xs)) e ∙ ap (flat_map (λ (part : Piece). part.charset)) (sym (first_made all (length all) refl numbers))

  -- ---- in loops over parts

  -- the charset of the first part
  pub charset_of_first : (parts : List ℕ) → 0 < length parts → (at (get_or parts 0 0)).charset ≡ flat_map (λ (part : Piece). part.charset) (take 1 (map at parts))
  charset_of_first [] l = absurd (omega (arith, l))
  charset_of_first (part ∷ parts) l = sym (append-nil (at part).charset)

  pub count_of : (parts : List ℕ) → length parts ≡ length (map at parts)
  count_of parts = sym (length-map parts at)

  -- the parts before one, it, and those after
  parted : (parts : List ℕ) (i : ℕ) → i < length parts → map at parts ≡ map at (take i parts) ++ at (get_or parts i 0) ∷ map at (drop (i + 1) parts)
  parted parts i l = ap (map at) (sym (take-append-drop i parts) ∙ ap (λ rs. take i parts ++ rs) (drop_more parts i 0 l)) ∙ map-append at (take i parts) (get_or parts i 0 ∷ drop (i + 1) parts)

  pub one_further : (parts : List ℕ) (i : ℕ) → i < length parts → map at (take (i + 1) parts) ≡ map at (take i parts) ++ at (get_or parts i 0) ∷ []
  one_further parts i l = ap (map at) (take_more parts i 0 l) ∙ map-append at (take i parts) (get_or parts i 0 ∷ [])

  pub AreSlots-more : (parts : List ℕ) (i : ℕ) (old new : List (Option ℕ)) → i < length parts → length old ≡ length parts → AreSlots at (length parts) (map at (take i parts)) old
      → (AreSlots at (length old) (map at (take i parts)) old → AreSlots at (length old) (map at (take i parts) ++ at (get_or parts i 0) ∷ []) new)
      → AreSlots at (length parts) (map at (take (i + 1) parts)) new
  AreSlots-more parts i old new l count are put =
      let turn = put (subst (λ n. AreSlots at n (map at (take i parts)) old) (sym count) are) in
      subst (λ ps. AreSlots at (length parts) ps new) (sym (one_further parts i l)) (subst (λ n. AreSlots at n (map at (take i parts) ++ at (get_or parts i 0) ∷ []) new) count turn)

  pub not-AreNumbered-taken : (parts : List ℕ) (i : ℕ) (slots : List (Option ℕ)) → i < length parts → length slots ≡ length parts → AreSlots at (length parts) (map at (take i parts)) slots
      → (AreSlots at (length slots) (map at (take i parts)) slots → length slots ≡ length (map at (take i parts) ++ at (get_or parts i 0) ∷ map at (drop (i + 1) parts))
      → AreNumbered (map at (take i parts) ++ at (get_or parts i 0) ∷ map at (drop (i + 1) parts)) → ⊥)
      → AreNumbered (map at parts) → ⊥
  not-AreNumbered-taken parts i slots l count are taken numbers =
      let cut = parted parts i l in
      taken (subst (λ n. AreSlots at n (map at (take i parts)) slots) (sym count) are) (count ∙ count_of parts ∙ ap length cut) (subst AreNumbered cut numbers)

  -- what the parts say that are made
  pub joined_said : (all made : List Piece) (n : ℕ) (charset octets : List ℕ) → AreNumbered all → n ≡ length all → made ≡ first_parts n all
      → charset ≡ flat_map (λ (part : Piece). part.charset) (take 1 made) → octets ≡ flat_map (λ (part : Piece). part.octets) made → unit_of charset octets ≡ joined_unit all
  joined_said all made n charset octets numbers count are charset_is octets_is =
      let whole : made ≡ first_parts (length all) all = are ∙ ap (λ m. first_parts m all) count in
      rw (charset_is ∙ first_charset all made numbers whole, octets_is ∙ ap (flat_map (λ (part : Piece). part.octets)) whole) refl

-- ---- the bound of what slots hold

pub HoldBelow-empty : (bound : ℕ) (slots : List (Option ℕ)) → ((n : ℕ) → get_or slots n None ≡ None) → HoldBelow bound slots
HoldBelow-empty bound slots free n k e = let both : None ≡ Some k = sym (free n) ∙ e in absurd cc

pub HoldBelow-put : (bound number part : ℕ) (slots : List (Option ℕ)) → HoldBelow bound slots → part < bound → number < length slots → HoldBelow bound (set slots number (Some part))
HoldBelow-put bound number part slots below small within n k e = elim (cases_eq n number) [
  | inl same ↦
      let both : Some part ≡ Some k = sym (get_or-set_same slots number (Some part) None within) ∙ ap (λ m. get_or (set slots number (Some part)) m None) (sym same) ∙ e in
      let is : part ≡ k = cc both in
      subst (λ m. m < bound) is small
  | inr other ↦ below n k (sym (get_or-set_other slots number n (Some part) None other) ∙ e)
]

pub HoldBelow-at : (bound : ℕ) (slots items : List (Option ℕ)) (i k : ℕ) (d : Option ℕ) → HoldBelow bound slots → items ≡ slots → i < length items → get_or items i d ≡ Some k → k < bound
HoldBelow-at bound slots items i k d below same l is = below i k (ap (λ s. get_or s i None) (sym same) ∙ get_or_default items i None d l ∙ is)
