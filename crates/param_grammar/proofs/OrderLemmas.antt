-- Pieces in the order of their names: those of a name stand after one another.
use Rattle.std.proofs.Common.{◌≡◌, ℕ, zero, suc, ◌+◌, ◌<◌, ◌≤◌, ◌==◌, ◌&&◌, ◌||◌, Bool, true, false, not, List, [], ◌∷◌, ◌++◌, length, get_or, take, drop, map, filter, All, refl, sym, ap, ◌∙◌, subst, arith, inl, inr}
use Rattle.std.specs.Cmp.Lexicographic.{slice_cmp, nat_list_cmp_total, nat_list_eq_equiv}
use Rattle.mail_wire.specs.Spans.{Stops, IsSpan}
use Rattle.std.specs.List.{list_all, list_any}
use Rattle.std.specs.List.Sorted.{IsPartitionedBy, IsPartitionPoint, IsSortedByKey, ties}
use Rattle.std.specs.Ordering.{nat_cmp, is_lt, is_eq, ordering_reverse}
use Rattle.std.specs.declared.cmp.Ordering.{Ordering}
use Rattle.std.specs.declared.cmp.Ordering.TheVariants.{Less, Equal, Greater}
use Rattle.std.specs.Str.{bytes_eq}
use Rattle.std.proofs.lemmas.Bool.{cases_Bool, true≢false}
use Rattle.std.proofs.lemmas.Bool.Decides.{nat_tests}
use Rattle.std.proofs.lemmas.List.{append_assoc, append-nil, length-append, take_more, map-append, get_or_at, get_or-append-add, get_or-take, get_or-drop, length-take-le, length-drop, take-append-drop}
use Rattle.std.proofs.lemmas.List.Elements.{filter-append, All-from_get_or, All-head, All-tail}
use Rattle.std.proofs.lemmas.List.Sorted.{ranks_by, sorted_far}
use Rattle.std.proofs.lemmas.Map.Text.{is_eq-slice_cmp}
use Rattle.std.proofs.lemmas.Slice.Eq.{bytes_eq-Decides}
use Rattle.param_grammar.specs.declared.Piece.{Piece}
use Rattle.param_grammar.specs.Places.{no_piece, piece_in}
use Rattle.param_grammar.specs.private.Ordered.{numbers_below, InNameOrder}

-- ---- names that tie

abbrev order_of : List ℕ → List ℕ → Ordering
order_of = slice_cmp nat_cmp

tie_is : (r s : Ordering) → r ≡ ordering_reverse s → (not (is_lt r) && not (is_lt s)) ≡ is_eq r
tie_is Less Less e = cc e
tie_is Less Equal e = cc e
tie_is Less Greater e = refl
tie_is Equal Less e = cc e
tie_is Equal Equal e = refl
tie_is Equal Greater e = cc e
tie_is Greater Less e = refl
tie_is Greater Equal e = cc e
tie_is Greater Greater e = cc e

ties_named : (x y : List ℕ) → (not (is_lt (order_of x y)) && not (is_lt (order_of y x))) ≡ bytes_eq x y
ties_named x y = tie_is (order_of x y) (order_of y x) (nat_list_cmp_total.antisymm x y) ∙ is_eq-slice_cmp x y

-- ---- filters

filter_as : (p q : ℕ → Bool) → ((x : ℕ) → p x ≡ q x) → (xs : List ℕ) → filter p xs ≡ filter q xs
filter_as p q same [] = refl
filter_as p q same (x ∷ xs) = rw (same x, filter_as p q same xs) refl

none_pass : (p : ℕ → Bool) (xs : List ℕ) → list_any p xs ≡ false → filter p xs ≡ []
none_pass p [] e = refl
none_pass p (x ∷ xs) e = by (p x) refl e (none_pass p xs)
  where
    by : (b : Bool) → p x ≡ b → (b || list_any p xs) ≡ false → (list_any p xs ≡ false → filter p xs ≡ []) → filter p (x ∷ xs) ≡ []
    by true is e more = absurd (true≢false e)
    by false is e more = rw is (more e)

all_pass : (p : ℕ → Bool) (xs : List ℕ) → list_all p xs ≡ true → filter p xs ≡ xs
all_pass p [] e = refl
all_pass p (x ∷ xs) e = by (p x) refl e (all_pass p xs)
  where
    by : (b : Bool) → p x ≡ b → (b && list_all p xs) ≡ true → (list_all p xs ≡ true → filter p xs ≡ xs) → filter p (x ∷ xs) ≡ x ∷ xs
    by true is e more = rw is (ap (λ r. x ∷ r) (more e))
    by false is e more = absurd (true≢false (sym e))

-- ---- the numbers below another

below_next : (i n : ℕ) → i < suc n → (i < n → (others : List ℕ) × (numbers_below n ≡ numbers_below i ++ i ∷ others)) → (b : Bool) → (i == n) ≡ b
    → (others : List ℕ) × (numbers_below (suc n) ≡ numbers_below i ++ i ∷ others)
below_next i n l before true e = let same : i ≡ n = grind (arith, nat_tests, e) in ([], ap (λ k. numbers_below k ++ k ∷ []) (sym same) ∙ ap (λ k. numbers_below i ++ k ∷ []) refl)
below_next i n l before false e =
    let less : i < n = grind (arith, nat_tests, e, l) in
    let front = before less in
    (front.0 ++ n ∷ [], ap (λ r. r ++ n ∷ []) front.1 ∙ append_assoc (numbers_below i) (i ∷ front.0) (n ∷ []))

pub below_cut : (i n : ℕ) → i < n → (others : List ℕ) × (numbers_below n ≡ numbers_below i ++ i ∷ others)
below_cut i zero l = absurd (omega (arith, l))
below_cut i (suc n) l = below_next i n l (λ m. below_cut i n m) (i == n) refl

-- the pieces of a test on pieces, by their numbers
pub pieces_passing : (p : ℕ → Bool) (q : Piece → Bool) (pieces : List Piece) (n : ℕ) → n ≤ length pieces → ((i : ℕ) → i < n → p i ≡ q (piece_in pieces i))
    → map (piece_in pieces) (filter p (numbers_below n)) ≡ filter q (take n pieces)
pieces_passing p q pieces zero l same = refl
pieces_passing p q pieces (suc n) l same =
    let before = pieces_passing p q pieces n (omega (arith, l)) (λ i below. same i (omega (arith, below))) in
    let next : n + 1 ≡ suc n = omega arith in
    let one : map (piece_in pieces) (filter p (n ∷ [])) ≡ filter q (piece_in pieces n ∷ []) = single (p n) refl (same n (omega arith)) in
    let left : map (piece_in pieces) (filter p (numbers_below n ++ n ∷ [])) ≡ filter q (take n pieces) ++ filter q (piece_in pieces n ∷ [])
    = ap (map (piece_in pieces)) (filter-append p (numbers_below n) (n ∷ [])) ∙ map-append (piece_in pieces) (filter p (numbers_below n)) (filter p (n ∷ []))
    ∙ ap (λ r. r ++ map (piece_in pieces) (filter p (n ∷ []))) before ∙ ap (λ r. filter q (take n pieces) ++ r) one in
    left ∙ sym (filter-append q (take n pieces) (piece_in pieces n ∷ [])) ∙ ap (filter q) (sym (take_more pieces n no_piece (omega (arith, l)))) ∙ ap (λ k. filter q (take k pieces)) next
  where
    single : (b : Bool) → p n ≡ b → p n ≡ q (piece_in pieces n) → map (piece_in pieces) (filter p (n ∷ [])) ≡ filter q (piece_in pieces n ∷ [])
    single true is e = rw (is, sym e ∙ is) refl
    single false is e = rw (is, sym e ∙ is) refl

-- ---- the pieces of a name after one another

module _ (name : ℕ → List ℕ) where
  abbrev pub is_of : ℕ → ℕ → Bool
  is_of x y = bytes_eq (name x) (name y)

  pub named_in : (count : ℕ) (order : List ℕ) → InNameOrder name count order → (x : ℕ) → filter (is_of x) order ≡ filter (is_of x) (numbers_below count)
  named_in count order o x =
      let by_ties : (y : ℕ) → is_of x y ≡ ties (λ a b. is_lt (order_of (name a) (name b))) x y = λ y. sym (ties_named (name x) (name y)) in
      filter_as (is_of x) _ by_ties order ∙ o.stable x ∙ filter_as _ (is_of x) (λ y. sym (by_ties y)) (numbers_below count)

  -- what stands after an element isn't below it
  after_up : (order pre post : List ℕ) (x : ℕ) → IsSortedByKey name order_of order → order ≡ pre ++ x ∷ post → All (λ y. is_lt (order_of (name y) (name x)) ≡ false) post
  after_up order pre post x sorted cut = All-from_get_or (λ y. is_lt (order_of (name y) (name x)) ≡ false) post 0 (λ k l.
      let here : get_or order (length pre) 0 ≡ x = ap (λ xs. get_or xs (length pre) 0) cut ∙ get_or_at pre x post 0 (length pre) refl in
      let place : length pre + (1 + k) ≡ (length pre + 1) + k = omega arith in
      let there : get_or order (length pre + (1 + k)) 0 ≡ get_or post k 0
      = ap (λ xs. get_or xs (length pre + (1 + k)) 0) cut ∙ get_or-append-add pre (x ∷ post) (1 + k) 0 ∙ ap (λ m. get_or (x ∷ post) m 0) (let e : 1 + k ≡ suc k = omega arith in e) in
      let whole = ap length cut in
      let far = sorted_far (λ a b. is_lt (order_of (name a) (name b))) (ranks_by nat_list_cmp_total name) order sorted (length pre) (length pre + (1 + k)) 0 (omega arith) (omega (arith, l, whole, length-append pre (x ∷ post))) in
      subst (λ a. is_lt (order_of (name (get_or post k 0)) (name a)) ≡ false) here (subst (λ b. is_lt (order_of (name b) (name (get_or order (length pre) 0))) ≡ false) there far))

  not_again : (last b y : ℕ) → is_lt (order_of (name b) (name last)) ≡ false → is_lt (order_of (name y) (name b)) ≡ false → is_of last b ≡ false → is_of last y ≡ true → ⊥
  not_again last b y up further other same =
      let e : name last ≡ name y = (bytes_eq-Decides (name last) (name y)).0 same in
      let down : is_lt (order_of (name last) (name b)) ≡ false = ap (λ n. is_lt (order_of n (name b))) e ∙ further in
      let tie : bytes_eq (name last) (name b) ≡ true = sym (ties_named (name last) (name b)) ∙ rw (down, up) refl in
      true≢false (sym tie ∙ other)

  none_again : (last b : ℕ) (ys : List ℕ) → is_lt (order_of (name b) (name last)) ≡ false → is_of last b ≡ false → All (λ y. is_lt (order_of (name y) (name b)) ≡ false) ys → filter (is_of last) ys ≡ []
  none_again last b [] up other all = refl
  none_again last b (y ∷ ys) up other all = by (is_of last y) refl (none_again last b ys up other (All-tail (λ y. is_lt (order_of (name y) (name b)) ≡ false) y ys all))
    where
      by : (t : Bool) → is_of last y ≡ t → filter (is_of last) ys ≡ [] → filter (is_of last) (y ∷ ys) ≡ []
      by true is more = absurd (not_again last b y up (All-head (λ y. is_lt (order_of (name y) (name b)) ≡ false) y ys all) other is)
      by false is more = rw is more

  -- those that are done have no name in common with those that are left
  abbrev pub AreApart : List ℕ → List ℕ → Type 0
  AreApart done rest = (x : ℕ) (pre post : List ℕ) → rest ≡ pre ++ x ∷ post → filter (is_of x) done ≡ []

  at_cut : (P : ℕ → Type 0) (mid post : List ℕ) (y : ℕ) → All P (mid ++ y ∷ post) → P y
  at_cut P [] post y all = All-head P y post all
  at_cut P (m ∷ mid) post y all = at_cut P mid post y (All-tail P m (mid ++ y ∷ post) all)

  own : (x : ℕ) → is_of x x ≡ true
  own x = (bytes_eq-Decides (name x) (name x)).1 refl

  pub turned : (x y : ℕ) → is_of x y ≡ is_of y x
  turned x y = nat_list_eq_equiv.symm (name x) (name y)

  -- a run begins with the first
  pub run_begins : (first : ℕ) (more run following : List ℕ) → first ∷ more ≡ run ++ following → Stops (is_of first) following → (others : List ℕ) × (run ≡ first ∷ others) × (more ≡ others ++ following)
  run_begins first more [] [] cut stops = absurd cc
  run_begins first more [] (b ∷ following) cut stops = let same : first ≡ b = cc cut in absurd (true≢false (sym (own first) ∙ ap (is_of first) same ∙ stops))
  run_begins first more (r ∷ run) following cut stops =
      let head : r ≡ first = cc cut in
      let tail : more ≡ run ++ following = cc cut in
      (run, ap (λ x. x ∷ run) head, tail)

  none_following : (order done more run following : List ℕ) (first : ℕ) → IsSortedByKey name order_of order → order ≡ done ++ first ∷ more → first ∷ more ≡ run ++ following → Stops (is_of first) following
      → filter (is_of first) following ≡ []
  none_following order done more run [] first sorted cut parted stops = refl
  none_following order done more run (b ∷ following) first sorted cut parted stops =
      let begins = run_begins first more run (b ∷ following) parted stops in
      let above = after_up order done more first sorted cut in
      let up = at_cut (λ y. is_lt (order_of (name y) (name first)) ≡ false) begins.0 following b (subst (All (λ y. is_lt (order_of (name y) (name first)) ≡ false)) begins.2 above) in
      let whole : order ≡ (done ++ run) ++ b ∷ following = cut ∙ ap (λ r. done ++ r) parted ∙ sym (append_assoc done run (b ∷ following)) in
      let further = after_up order (done ++ run) following b sorted whole in
      rw stops (none_again first b following up stops further)

  -- the first pieces that have one name are all that have it
  pub run_is : (count : ℕ) (order done rest more run following : List ℕ) (first : ℕ) → InNameOrder name count order → order ≡ done ++ rest → AreApart done rest → rest ≡ first ∷ more
      → IsSpan (is_of first) rest run following → run ≡ filter (is_of first) (numbers_below count)
  run_is count order done rest more run following first o cut apart is span =
      let parted : first ∷ more ≡ run ++ following = sym is ∙ span.whole in
      let none : filter (is_of first) following ≡ [] = none_following order done more run following first o.sorted (cut ∙ ap (λ r. done ++ r) is) parted span.stops in
      let before : filter (is_of first) done ≡ [] = apart first [] more is in
      let all : filter (is_of first) order ≡ run =
      ap (filter (is_of first)) (cut ∙ ap (λ r. done ++ r) span.whole) ∙ filter-append (is_of first) done (run ++ following) ∙ ap (λ r. r ++ filter (is_of first) (run ++ following)) before
      ∙ filter-append (is_of first) run following ∙ ap (λ r. filter (is_of first) run ++ r) none ∙ append-nil (filter (is_of first) run) ∙ all_pass (is_of first) run span.passes in
      sym all ∙ named_in count order o first

  pub others_pass : (first x : ℕ) (run : List ℕ) → list_all (is_of first) run ≡ true → is_of x first ≡ false → filter (is_of x) run ≡ []
  others_pass first x [] passes other = refl
  others_pass first x (r ∷ run) passes other = by (is_of first r) refl passes (others_pass first x run)
    where
      by : (b : Bool) → is_of first r ≡ b → (b && list_all (is_of first) run) ≡ true → (list_all (is_of first) run ≡ true → is_of x first ≡ false → filter (is_of x) run ≡ [])
          → filter (is_of x) (r ∷ run) ≡ []
      by false is e more = absurd (true≢false (sym e))
      by true is e more =
          let same : name first ≡ name r = (bytes_eq-Decides (name first) (name r)).0 is in
          let not_here : is_of x r ≡ false = ap (bytes_eq (name x)) (sym same) ∙ other in
          rw not_here (more e other)

  pub in_filter : (p : ℕ → Bool) (pre post : List ℕ) (x : ℕ) → p x ≡ true → filter p (pre ++ x ∷ post) ≡ [] → ⊥
  in_filter p pre post x is none =
      let parts : filter p (pre ++ x ∷ post) ≡ filter p pre ++ (x ∷ filter p post) = filter-append p pre (x ∷ post) ∙ ap (λ r. filter p pre ++ r) (rw is refl) in
      let len = ap length (sym parts ∙ none) in
      omega (arith, len, length-append (filter p pre) (x ∷ filter p post))

  pub AreApart-more : (count : ℕ) (order done rest more run following : List ℕ) (first : ℕ) → InNameOrder name count order → order ≡ done ++ rest → AreApart done rest → rest ≡ first ∷ more
      → IsSpan (is_of first) rest run following → AreApart (done ++ run) following
  AreApart-more count order done rest more run following first o cut apart is span = λ x pre post at.
      let parted : first ∷ more ≡ run ++ following = sym is ∙ span.whole in
      let none : filter (is_of first) following ≡ [] = none_following order done more run following first o.sorted (cut ∙ ap (λ r. done ++ r) is) parted span.stops in
      let before : filter (is_of x) done ≡ [] = apart x (run ++ pre) post (span.whole ∙ ap (λ r. run ++ r) at ∙ sym (append_assoc run pre (x ∷ post))) in
      let other : is_of x first ≡ false = elim (cases_Bool (is_of x first)) [
        | inl same ↦ absurd (in_filter (is_of first) pre post x (turned first x ∙ same) (ap (filter (is_of first)) (sym at) ∙ none))
        | inr isnt ↦ isnt
      ] in
      filter-append (is_of x) done run ∙ ap (λ r. r ++ filter (is_of x) run) before ∙ others_pass first x run span.passes other

  -- ---- the pieces of a name from a place on

  less_other : (x y : ℕ) → is_lt (order_of (name y) (name x)) ≡ true → is_of x y ≡ false
  less_other x y less = turned x y ∙ sym (ties_named (name y) (name x)) ∙ rw less refl

  none_less : (x : ℕ) (ys : List ℕ) → All (λ y. is_lt (order_of (name y) (name x)) ≡ true) ys → filter (is_of x) ys ≡ []
  none_less x [] all = refl
  none_less x (y ∷ ys) all =
      rw (less_other x y (All-head (λ y. is_lt (order_of (name y) (name x)) ≡ true) y ys all)) (none_less x ys (All-tail (λ y. is_lt (order_of (name y) (name x)) ≡ true) y ys all))

  none_after : (order front run following : List ℕ) (x : ℕ) → IsSortedByKey name order_of order → order ≡ front ++ (run ++ following) → All (λ y. is_lt (order_of (name y) (name x)) ≡ false) (run ++ following)
      → Stops (is_of x) following → filter (is_of x) following ≡ []
  none_after order front run [] x sorted cut all stops = refl
  none_after order front run (b ∷ following) x sorted cut all stops =
      let up = at_cut (λ y. is_lt (order_of (name y) (name x)) ≡ false) run following b all in
      let whole : order ≡ (front ++ run) ++ b ∷ following = cut ∙ sym (append_assoc front run (b ∷ following)) in
      rw stops (none_again x b following up stops (after_up order (front ++ run) following b sorted whole))

  pub run_at : (count : ℕ) (order front rest run following : List ℕ) (x : ℕ) → InNameOrder name count order → order ≡ front ++ rest → All (λ y. is_lt (order_of (name y) (name x)) ≡ true) front
      → All (λ y. is_lt (order_of (name y) (name x)) ≡ false) rest → IsSpan (is_of x) rest run following → run ≡ filter (is_of x) (numbers_below count)
  run_at count order front rest run following x o cut less more span =
      let parted : order ≡ front ++ (run ++ following) = cut ∙ ap (λ r. front ++ r) span.whole in
      let none : filter (is_of x) following ≡ [] = none_after order front run following x o.sorted parted (subst (All (λ y. is_lt (order_of (name y) (name x)) ≡ false)) span.whole more) span.stops in
      let all : filter (is_of x) order ≡ run =
      ap (filter (is_of x)) parted ∙ filter-append (is_of x) front (run ++ following) ∙ ap (λ r. r ++ filter (is_of x) (run ++ following)) (none_less x front less)
      ∙ filter-append (is_of x) run following ∙ ap (λ r. filter (is_of x) run ++ r) none ∙ append-nil (filter (is_of x) run) ∙ all_pass (is_of x) run span.passes in
      sym all ∙ named_in count order o x

  pub parted_by : (order : List ℕ) (x : ℕ) → IsSortedByKey name order_of order → IsPartitionedBy (λ y. is_lt (order_of (name y) (name x))) order
  parted_by order x sorted i j d le l less = elim (cases_Bool (is_lt (order_of (name (get_or order i d)) (name x)))) [
    | inl here ↦ here
    | inr isnt ↦
        let weak = ranks_by nat_list_cmp_total name in
        let far = sorted_far (λ a b. is_lt (order_of (name a) (name b))) weak order sorted i j d le l in
        absurd (true≢false (sym less ∙ (ranks_by nat_list_cmp_total (λ (n : List ℕ). n)).chain (name (get_or order j d)) (name (get_or order i d)) (name x) far isnt))
  ]

  pub run_parted : (count : ℕ) (order run following : List ℕ) (x at : ℕ) → InNameOrder name count order → at ≤ length order
      → IsPartitionPoint (λ y. is_lt (order_of (name y) (name x)) ≡ true) (λ y. is_lt (order_of (name y) (name x)) ≡ false) order at → IsSpan (is_of x) (drop at order) run following
      → run ≡ filter (is_of x) (numbers_below count)
  run_parted count order run following x at o bound parted span =
      let less : All (λ y. is_lt (order_of (name y) (name x)) ≡ true) (take at order) = λ k d l.
      let below : k < at = let len = length-take-le at order bound in omega (arith, l, len) in
      subst (λ y. is_lt (order_of (name y) (name x)) ≡ true) (sym (get_or-take at order k d below)) (parted.0 k d (omega arith) below) in
      let more : All (λ y. is_lt (order_of (name y) (name x)) ≡ false) (drop at order) = λ k d l.
      let len = length-drop at order in
      subst (λ y. is_lt (order_of (name y) (name x)) ≡ false) (sym (get_or-drop at order k d)) (parted.1 (at + k) d (omega arith) (omega (arith, l, len, bound))) in
      run_at count order (take at order) (drop at order) run following x o (sym (take-append-drop at order)) less more span
