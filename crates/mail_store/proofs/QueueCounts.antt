-- How many recipients a queue tells.
use Rattle.std.proofs.Common.{◌≡◌, ℕ, suc, ◌+◌, ◌≤◌, Bool, List, [], ◌∷◌, length, Some, Result, Ok, Err, sym, ap, subst, ◌∙◌, arith, refl, inl, inr}
use Rattle.std.specs.Prelude.{slice_get, IfOk}
use Rattle.std.specs.List.{AllZip}
use Rattle.std.proofs.lemmas.Bool.{cases_Bool}
use Rattle.std.proofs.lemmas.List.Sums.{sum_by-cons}
use Rattle.mail_wire.specs.declared.values.Memory.{Memory}
use Rattle.kept_mail.specs.Records.{recipient_count}
use Rattle.kept_mail.specs.declared.kept.Entry.{Entry}
use Rattle.kept_mail.specs.declared.limits.TheConstants.{THINGS_MAX}
use Rattle.mail_store.specs.Queue.{IsQueue, IsQueuedAt, IsUnsettledAt, is_open, places_where, told_count, waits}
use Rattle.mail_store.specs.declared.queue.Queued.{Queued}

same_entry : (x y : Entry) → Some x ≡ Some y → x ≡ y
same_entry x y e = cc

same_length : {A B : Type 0} (R : A → B → Type 0) (xs : List A) (ys : List B) → AllZip R xs ys → length xs ≡ length ys
same_length R [] [] all = refl
same_length R [] (y ∷ ys) all = absurd all
same_length R (x ∷ xs) [] all = absurd all
same_length R (x ∷ xs) (y ∷ ys) all = let more = same_length R xs ys all.1 in omega (arith, more)

-- no more pass than there are
places_few : {T : Type 0} (test : T → Bool) (at : ℕ) (xs : List T) → length (places_where test at xs) ≤ length xs
places_few test at [] = omega arith
places_few test at (x ∷ xs) =
    let more = places_few test (at + 1) xs in
    elim (cases_Bool (test x)) [
      | inl here ↦ rw here (omega (arith, more))
      | inr other ↦ rw other (omega (arith, more))
    ]

-- an entry that is told, and others
open_more : (all : List Entry) (at : ℕ) (e : Entry) (es : List Entry) (queue : List Queued) → slice_get all at ≡ Some e → AllZip (IsQueuedAt all) (at ∷ places_where is_open (at + 1) es) queue
    → ((rest : List Queued) → AllZip (IsQueuedAt all) (places_where is_open (at + 1) es) rest → told_count rest ≤ recipient_count es) → told_count queue ≤ recipient_count (e ∷ es)
open_more all at e es [] there told more = absurd told
open_more all at e es (one ∷ rest) there told more =
    let entry = told.0.entry in
    let whole = sum_by-cons (λ (x : Entry). length x.recipients) e es in
    let parts = sum_by-cons (λ (x : Queued). length x.unsettled) one rest in
    let same : entry ≡ e = same_entry entry e (sym told.0.there ∙ there) in
    let size = same_length (IsUnsettledAt entry.recipients) (places_where waits 0 entry.recipients) one.unsettled told.0.queued.unsettled_are in
    let few = places_few waits 0 entry.recipients in
    let own : length entry.recipients ≡ length e.recipients = ap (λ (x : Entry). length x.recipients) same in
    let others = more rest told.1 in
    omega (arith, whole, parts, size, few, own, others)

count_from : (all : List Entry) (at : ℕ) (es : List Entry) (queue : List Queued) → ((i : ℕ) → slice_get all (at + i) ≡ slice_get es i) → AllZip (IsQueuedAt all) (places_where is_open at es) queue
    → told_count queue ≤ recipient_count es
count_from all at [] [] agree told = omega arith
count_from all at [] (one ∷ queue) agree told = absurd told
count_from all at (e ∷ es) queue agree told =
    let here_is : at + 0 ≡ at = omega arith in
    let there : slice_get all at ≡ Some e = subst (λ (k : ℕ). slice_get all k ≡ Some e) here_is (agree 0) in
    let onward : (i : ℕ) → slice_get all (at + 1 + i) ≡ slice_get es i = λ i.
    (let next : at + suc i ≡ at + 1 + i = omega arith in subst (λ (k : ℕ). slice_get all k ≡ slice_get es i) next (agree (suc i))) in
    elim (cases_Bool (is_open e)) [
      | inl here ↦ open_more all at e es queue there (rw here at told) (λ rest t. count_from all (at + 1) es rest onward t)
      | inr other ↦
          let more = count_from all (at + 1) es queue onward (rw other at told) in
          let whole = sum_by-cons (λ (x : Entry). length x.recipients) e es in
          omega (arith, more, whole)
    ]

-- no more recipients are told than the queue ever had
pub told_few : (result : Result (List Queued) Memory) (es : List Entry) → recipient_count es ≤ THINGS_MAX → IfOk result (IsQueue es) → IfOk result (λ queue. told_count queue ≤ THINGS_MAX)
told_few (Ok queue) es few told =
    let count = count_from es 0 es queue (λ i. (let same : 0 + i ≡ i = omega arith in ap (slice_get es) same)) told in
    omega (arith, few, count)
told_few (Err memory) es few told = tt
