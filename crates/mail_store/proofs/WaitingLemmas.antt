-- How many recipients of each open entry wait.
use Rattle.std.proofs.Common.{◌≡◌, ℕ, zero, suc, ◌+◌, ◌<◌, ◌≤◌, Bool, true, false, cond, ◌||◌, List, [], ◌∷◌, ◌++◌, length, Option, Some, None, refl, sym, ap, ◌∙◌, arith, inl, inr, append-nil, le-ltb, eq-eqb, ne_eqb}
use Rattle.std.specs.Prelude.{slice_get, count_by}
use Rattle.std.specs.List.{AllByRecursion, list_any}
use Rattle.std.specs.Ordering.{nat_cmp}
use Rattle.std.specs.declared.cmp.Ordering.TheVariants.{Equal, Greater}
use Rattle.std.specs.BTreeMap.{is_at, insert_entry}
use Rattle.std.specs.Map.{keys_of, remove_entry, set_value}
use Rattle.std.proofs.lemmas.Bool.{cases_Bool, or_left, or_right}
use Rattle.std.proofs.lemmas.List.Sums.{sum_by-cons}
use Rattle.std.proofs.lemmas.Option.{same_Some, none-some}
use Rattle.kept_mail.specs.declared.kept.Recipient.{Recipient}
use Rattle.kept_mail.specs.declared.kept.Entry.{Entry}
use Rattle.kept_mail.specs.Kept.{change_at, settled, without}
use Rattle.kept_mail.specs.Records.{IsUnsettled, IsWaiting}
use Rattle.mail_store.specs.Queue.{is_open, open_counts, open_numbers, places_where, sizes_where, waiting_count, waits}
use Rattle.mail_store.specs.private.Queue.{IsAwaited, awaited, count_at, opened}

-- ---- who waits

abbrev one_if : Bool → ℕ
one_if is = cond is 1 0

count-cons : (r : Recipient) (rs : List Recipient) → count_by waits (r ∷ rs) ≡ one_if r.waits + count_by waits rs
count-cons r rs = sum_by-cons (λ (x : Recipient). one_if x.waits) r rs

some_wait : (rs : List Recipient) → 0 < count_by waits rs → list_any waits rs ≡ true
some_wait [] some = absurd (omega (arith, some))
some_wait (r ∷ rs) some =
    let count = count-cons r rs in
    elim (cases_Bool r.waits) [
      | inl here ↦ or_left r.waits (list_any waits rs) here
      | inr done ↦
          let zero_is : one_if r.waits ≡ 0 = ap one_if done in
          or_right r.waits (list_any waits rs) (some_wait rs (omega (arith, count, zero_is, some)))
    ]

none_wait : (rs : List Recipient) → count_by waits rs ≡ 0 → list_any waits rs ≡ false
none_wait [] none = refl
none_wait (r ∷ rs) none =
    let count = count-cons r rs in
    elim (cases_Bool r.waits) [
      | inl here ↦
          let one : one_if r.waits ≡ 1 = ap one_if here in
          absurd (omega (arith, count, one, none))
      | inr done ↦ ap (λ (b : Bool). b || list_any waits rs) done ∙ none_wait rs (omega (arith, count, none))
    ]

waits_among : (rs : List Recipient) (index : ℕ) → IsWaiting (slice_get rs index) → list_any waits rs ≡ true
waits_among [] index h = absurd h
waits_among (r ∷ rs) zero h = or_left r.waits (list_any waits rs) h
waits_among (r ∷ rs) (suc index) h = or_right r.waits (list_any waits rs) (waits_among rs index h)

one_fewer : (rs : List Recipient) (index : ℕ) → IsWaiting (slice_get rs index) → count_by waits rs ≡ count_by waits (change_at settled rs index) + 1
one_fewer [] index h = absurd h
one_fewer (r ∷ rs) zero h =
    let was = count-cons r rs in
    let is = count-cons (settled r) rs in
    let one : one_if r.waits ≡ 1 = ap one_if h in
    omega (arith, was, is, one)
one_fewer (r ∷ rs) (suc index) h =
    let was = count-cons r rs in
    let is = count-cons r (change_at settled rs index) in
    let ih = one_fewer rs index h in
    omega (arith, was, is, ih)

-- an entry of which a recipient waits
record Waits (o : Option Entry) (index : ℕ) : Type 0 where
  entry : Entry
  there : o ≡ Some entry
  is_open_now : is_open entry ≡ true
  count : waiting_count entry ≡ waiting_count (without index entry) + 1

was_open : (o : Option Entry) (index : ℕ) → IsUnsettled o index → Waits o index
was_open None index h = absurd h
was_open (Some x) index h = record { entry = x; there = refl; is_open_now = waits_among x.recipients index h; count = one_fewer x.recipients index h }

-- ---- numbers in order

cmp_same : (n m : ℕ) → n ≡ m → nat_cmp n m ≡ Equal
cmp_same n m e = rw (le-ltb n m (omega (arith, e)), eq-eqb n m e) refl

cmp_above : (n m : ℕ) → m < n → nat_cmp n m ≡ Greater
cmp_above n m lt = rw (le-ltb n m (omega (arith, lt)), ne_eqb n m (λ e. omega (arith, e, lt))) refl

abbrev below : ℕ → ℕ × ℕ → Type 0
below n e = e.0 < n

-- a number above all goes last
insert_last : (n v : ℕ) (es : List (ℕ × ℕ)) → AllByRecursion (below n) es → insert_entry nat_cmp es n v ≡ es ++ (n, v) ∷ []
insert_last n v [] h = refl
insert_last n v (e ∷ es) h = rw (cmp_above n e.0 h.0) (ap (λ l. e ∷ l) (insert_last n v es h.1))

remove_last : (n v : ℕ) (es : List (ℕ × ℕ)) → AllByRecursion (below n) es → remove_entry (is_at (nat_cmp n)) (es ++ (n, v) ∷ []) ≡ es
remove_last n v [] h = rw (cmp_same n n refl) refl
remove_last n v (e ∷ es) h = rw (cmp_above n e.0 h.0) (ap (λ l. e ∷ l) (remove_last n v es h.1))

remove-set : (test : ℕ → Bool) (es : List (ℕ × ℕ)) (v : ℕ) → remove_entry test (set_value test es v) ≡ remove_entry test es
remove-set test [] v = refl
remove-set test (e ∷ es) v =
    let set = set_value test es v in
    elim (cases_Bool (test e.0)) [
      | inl here ↦
          ap (λ (b : Bool). remove_entry test (cond b ((e.0, v) ∷ es) (e ∷ set))) here ∙ ap (λ (b : Bool). cond b es ((e.0, v) ∷ remove_entry test es)) here
          ∙ sym (ap (λ (b : Bool). cond b es (e ∷ remove_entry test es)) here)
      | inr other ↦
          ap (λ (b : Bool). remove_entry test (cond b ((e.0, v) ∷ es) (e ∷ set))) other ∙ ap (λ (b : Bool). cond b set (e ∷ remove_entry test set)) other
          ∙ ap (λ l. e ∷ l) (remove-set test es v) ∙ sym (ap (λ (b : Bool). cond b es (e ∷ remove_entry test es)) other)
    ]

-- ---- places and numbers

module _ {T : Type 0} (test : T → Bool) (size : T → ℕ) where
  sizes-push : (at : ℕ) (xs : List T) (x : T) → sizes_where test size at (xs ++ x ∷ []) ≡ sizes_where test size at xs ++ cond (test x) ((at + length xs, size x) ∷ []) []
  sizes-push at [] x =
      let here : at ≡ at + 0 = omega arith in
      ap (λ (n : ℕ). cond (test x) ((n, size x) ∷ []) []) here
  sizes-push at (y ∷ xs) x =
      let there : at + 1 + length xs ≡ at + suc (length xs) = omega arith in
      let more = sizes-push (at + 1) xs x ∙ ap (λ (n : ℕ). sizes_where test size (at + 1) xs ++ cond (test x) ((n, size x) ∷ []) []) there in
      elim (cases_Bool (test y)) [
        | inl here ↦ rw here (ap (λ l. (at, size y) ∷ l) more)
        | inr other ↦ rw other more
      ]

  sizes_below : (n at : ℕ) (xs : List T) → at + length xs ≤ n → AllByRecursion (below n) (sizes_where test size at xs)
  sizes_below n at [] within = tt
  sizes_below n at (x ∷ xs) within =
      let rest = sizes_below n (at + 1) xs (omega (arith, within)) in
      elim (cases_Bool (test x)) [
        | inl here ↦ rw here (omega (arith, within), rest)
        | inr other ↦ rw other rest
      ]

  keys-sizes : (at : ℕ) (xs : List T) → keys_of (sizes_where test size at xs) ≡ places_where test at xs
  keys-sizes at [] = refl
  keys-sizes at (x ∷ xs) =
      let rest = keys-sizes (at + 1) xs in
      elim (cases_Bool (test x)) [
        | inl here ↦ rw here (ap (λ l. at ∷ l) rest)
        | inr other ↦ rw other rest
      ]

  size_there : (n at i : ℕ) (xs : List T) (x : T) → n ≡ at + i → slice_get xs i ≡ Some x → test x ≡ true → count_at n (sizes_where test size at xs) ≡ Some (size x)
  size_there n at i [] x place e t = absurd (none-some x e)
  size_there n at zero (z ∷ xs) x place e t =
      let same = same_Some z x e in
      let was : test z ≡ true = ap test same ∙ t in
      rw (was, cmp_same n at (omega (arith, place))) (ap (λ y. Some (size y)) same)
  size_there n at (suc i) (z ∷ xs) x place e t =
      let ih = size_there n (at + 1) i xs x (omega (arith, place)) e t in
      elim (cases_Bool (test z)) [
        | inl here ↦ rw (here, cmp_above n at (omega (arith, place))) ih
        | inr other ↦ rw other ih
      ]

  module _ (change : T → T) where
    -- a change that leaves the test
    sizes_kept : (n at i : ℕ) (xs : List T) (x : T) → n ≡ at + i → slice_get xs i ≡ Some x → test x ≡ true → test (change x) ≡ true
        → sizes_where test size at (change_at change xs i) ≡ set_value (is_at (nat_cmp n)) (sizes_where test size at xs) (size (change x))
    sizes_kept n at i [] x place e t u = absurd (none-some x e)
    sizes_kept n at zero (z ∷ xs) x place e t u =
        let same = same_Some z x e in
        let was : test z ≡ true = ap test same ∙ t in
        let is : test (change z) ≡ true = ap (λ y. test (change y)) same ∙ u in
        rw (was, is, cmp_same n at (omega (arith, place))) (ap (λ y. (at, size (change y)) ∷ sizes_where test size (at + 1) xs) same)
    sizes_kept n at (suc i) (z ∷ xs) x place e t u =
        let ih = sizes_kept n (at + 1) i xs x (omega (arith, place)) e t u in
        elim (cases_Bool (test z)) [
          | inl here ↦ rw (here, cmp_above n at (omega (arith, place))) (ap (λ l. (at, size z) ∷ l) ih)
          | inr other ↦ rw other ih
        ]

    -- one that doesn't takes the place away
    sizes_lost : (n at i : ℕ) (xs : List T) (x : T) → n ≡ at + i → slice_get xs i ≡ Some x → test x ≡ true → test (change x) ≡ false
        → sizes_where test size at (change_at change xs i) ≡ remove_entry (is_at (nat_cmp n)) (sizes_where test size at xs)
    sizes_lost n at i [] x place e t u = absurd (none-some x e)
    sizes_lost n at zero (z ∷ xs) x place e t u =
        let same = same_Some z x e in
        let was : test z ≡ true = ap test same ∙ t in
        let is : test (change z) ≡ false = ap (λ y. test (change y)) same ∙ u in
        rw (was, is, cmp_same n at (omega (arith, place))) refl
    sizes_lost n at (suc i) (z ∷ xs) x place e t u =
        let ih = sizes_lost n (at + 1) i xs x (omega (arith, place)) e t u in
        elim (cases_Bool (test z)) [
          | inl here ↦ rw (here, cmp_above n at (omega (arith, place))) (ap (λ l. (at, size z) ∷ l) ih)
          | inr other ↦ rw other ih
        ]

pub open_counts-push : (es : List Entry) (e : Entry) → open_counts (es ++ e ∷ []) ≡ open_counts es ++ opened (length es) (Some e)
open_counts-push es e =
    let plain : 0 + length es ≡ length es = omega arith in
    sizes-push is_open waiting_count 0 es e ∙ ap (λ (n : ℕ). open_counts es ++ cond (is_open e) ((n, waiting_count e) ∷ []) []) plain

pub keys-open_counts : (es : List Entry) (counts : List (ℕ × ℕ)) → counts ≡ open_counts es → keys_of counts ≡ open_numbers es
keys-open_counts es counts is = ap (λ (l : List (ℕ × ℕ)). keys_of l) is ∙ keys-sizes is_open waiting_count 0 es

-- ---- the entry that comes next

counts_below : (es : List Entry) → AllByRecursion (below (length es)) (open_counts es)
counts_below es = sizes_below is_open waiting_count (length es) 0 es (omega arith)

opened_some : (n : ℕ) (entry : Option Entry) → 0 < awaited entry → opened n entry ≡ (n, awaited entry) ∷ []
opened_some n None some = absurd (omega (arith, some))
opened_some n (Some e) some = ap (λ (b : Bool). cond b ((n, waiting_count e) ∷ []) []) (some_wait e.recipients some)

opened_none : (n : ℕ) (entry : Option Entry) → awaited entry ≡ 0 → opened n entry ≡ []
opened_none n None none = refl
opened_none n (Some e) none = ap (λ (b : Bool). cond b ((n, waiting_count e) ∷ []) []) (none_wait e.recipients none)

pub open_last : (es : List Entry) (entry : Option Entry) (counts : List (ℕ × ℕ)) (count : ℕ) → count ≡ awaited entry → 0 < count → counts ≡ open_counts es
    → insert_entry nat_cmp counts (length es) count ≡ open_counts es ++ opened (length es) entry
open_last es entry counts count c some is =
    ap (λ (l : List (ℕ × ℕ)). insert_entry nat_cmp l (length es) count) is ∙ insert_last (length es) count (open_counts es) (counts_below es)
    ∙ ap (λ (n : ℕ). open_counts es ++ (length es, n) ∷ []) c ∙ ap (λ (l : List (ℕ × ℕ)). open_counts es ++ l) (sym (opened_some (length es) entry (omega (arith, c, some))))

pub open_none : (es : List Entry) (entry : Option Entry) (counts : List (ℕ × ℕ)) → awaited entry ≡ 0 → counts ≡ open_counts es
    → counts ≡ open_counts es ++ opened (length es) entry
open_none es entry counts none is =
    is ∙ sym (ap (λ (l : List (ℕ × ℕ)). open_counts es ++ l) (opened_none (length es) entry none) ∙ append-nil (open_counts es))

pub close_last : (es : List Entry) (entry : Option Entry) (counts : List (ℕ × ℕ)) → 0 < awaited entry → counts ≡ open_counts es ++ opened (length es) entry
    → remove_entry (is_at (nat_cmp (length es))) counts ≡ open_counts es
close_last es entry counts some is =
    ap (remove_entry (is_at (nat_cmp (length es)))) (is ∙ ap (λ (l : List (ℕ × ℕ)). open_counts es ++ l) (opened_some (length es) entry some))
    ∙ remove_last (length es) (awaited entry) (open_counts es) (counts_below es)

pub close_none : (es : List Entry) (entry : Option Entry) (counts : List (ℕ × ℕ)) → awaited entry ≡ 0 → counts ≡ open_counts es ++ opened (length es) entry
    → counts ≡ open_counts es
close_none es entry counts none is =
    is ∙ ap (λ (l : List (ℕ × ℕ)). open_counts es ++ l) (opened_none (length es) entry none) ∙ append-nil (open_counts es)

-- ---- a recipient that is settled

count_is : (es : List Entry) (at index : ℕ) (counts : List (ℕ × ℕ)) → (w : Waits (slice_get es at) index) → counts ≡ open_counts es
    → count_at at counts ≡ Some (waiting_count (without index w.entry) + 1)
count_is es at index counts w is =
    ap (count_at at) is ∙ size_there is_open waiting_count at 0 at es w.entry (omega arith) w.there w.is_open_now ∙ ap (λ (n : ℕ). Some n) w.count

pub is_counted : (es : List Entry) (at index : ℕ) (counts : List (ℕ × ℕ)) → IsUnsettled (slice_get es at) index → counts ≡ open_counts es → IsAwaited counts at
is_counted es at index counts h is =
    let w = was_open (slice_get es at) index h in
    record { others = waiting_count (without index w.entry); there = count_is es at index counts w is }

left_is : (es : List Entry) (at index : ℕ) (counts : List (ℕ × ℕ)) (left : ℕ) → (w : Waits (slice_get es at) index) → counts ≡ open_counts es
    → count_at at counts ≡ Some (left + 1) → left ≡ waiting_count (without index w.entry)
left_is es at index counts left w is was =
    let same = same_Some (left + 1) (waiting_count (without index w.entry) + 1) (sym was ∙ count_is es at index counts w is) in
    omega (arith, same)

pub stays_open : (es new : List Entry) (at index : ℕ) (counts : List (ℕ × ℕ)) (left : ℕ) → IsUnsettled (slice_get es at) index → new ≡ change_at (without index) es at
    → counts ≡ open_counts es → count_at at counts ≡ Some (left + 1) → 0 < left → set_value (is_at (nat_cmp at)) counts left ≡ open_counts new
stays_open es new at index counts left h e is was some =
    let w = was_open (slice_get es at) index h in
    let count = left_is es at index counts left w is was in
    let still = some_wait (change_at settled w.entry.recipients index) (omega (arith, count, some)) in
    ap (λ (l : List (ℕ × ℕ)). set_value (is_at (nat_cmp at)) l left) is ∙ ap (set_value (is_at (nat_cmp at)) (open_counts es)) count
    ∙ sym (sizes_kept is_open waiting_count (without index) at 0 at es w.entry (omega arith) w.there w.is_open_now still) ∙ ap open_counts (sym e)

pub is_closed : (es new : List Entry) (at index : ℕ) (counts : List (ℕ × ℕ)) (left : ℕ) → IsUnsettled (slice_get es at) index → new ≡ change_at (without index) es at
    → counts ≡ open_counts es → count_at at counts ≡ Some (left + 1) → left ≡ 0
    → remove_entry (is_at (nat_cmp at)) (set_value (is_at (nat_cmp at)) counts left) ≡ open_counts new
is_closed es new at index counts left h e is was none =
    let w = was_open (slice_get es at) index h in
    let count = left_is es at index counts left w is was in
    let closed = none_wait (change_at settled w.entry.recipients index) (omega (arith, count, none)) in
    remove-set (is_at (nat_cmp at)) counts left ∙ ap (remove_entry (is_at (nat_cmp at))) is
    ∙ sym (sizes_lost is_open waiting_count (without index) at 0 at es w.entry (omega arith) w.there w.is_open_now closed) ∙ ap open_counts (sym e)
