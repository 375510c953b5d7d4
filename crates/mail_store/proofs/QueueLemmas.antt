-- Which entries and recipients wait, and what is told of them.
use Rattle.journal_records.specs.declared.versions.Version.TheVariants as versions
use Rattle.std.proofs.Common.{◌≡◌, ℕ, zero, suc, ◌+◌, ◌<◌, ◌≤◌, Bool, cond, List, [], ◌∷◌, ◌++◌, length, take, map, get_or, Option, Some, None, Result, Ok, Err, sym, ap, subst, ◌∙◌, arith, inl, inr, append-nil, append_assoc, length-take-le}
use Rattle.std.specs.Prelude.{slice_get, IfOk, IfSome, ◌^◌}
use Rattle.std.specs.List.{All, AllZip, AllByRecursion}
use Rattle.std.proofs.lemmas.Bool.{cases_Bool}
use Rattle.std.proofs.lemmas.List.{take_more}
use Rattle.std.proofs.lemmas.List.Elements.{All-from_recursion, recursion_from_All, All-map}
use Rattle.std.proofs.lemmas.List.Sums.{sum_by-cons}
use Rattle.std.proofs.lemmas.Option.{none-some, slice_get-get_or}
use Rattle.mail_wire.specs.declared.values.Memory.{Memory}
use Rattle.address_grammar.specs.declared.Address.{Address}
use Rattle.address_grammar.specs.Paths.{ComesInPath, in_angles}
use Rattle.journal_records.specs.declared.records.Record.TheVariants as records
use Rattle.journal_records.specs.Addresses.{IsKeptAddress}
use Rattle.kept_mail.specs.declared.kept.Recipient.{Recipient}
use Rattle.kept_mail.specs.declared.kept.Entry.{Entry}
use Rattle.kept_mail.specs.Kept.{Kept, change_at, settled, waiting, without}
use Rattle.journal_records.specs.Stored.{IsStored}
use Rattle.kept_mail.specs.Records.{AreRecords, IsUnsettled, recipient_count}
use Rattle.mail_store.specs.private.Adding.{CanWait}
use Rattle.mail_store.specs.declared.queue.Queued.{Queued}
use Rattle.mail_store.specs.declared.queue.Unsettled.{Unsettled}
use Rattle.mail_store.specs.Queue.{HasPaths, IsKeptEntry, IsQueue, IsQueued, IsQueuedAt, IsTextOfPath, IsUnsettledAt, is_open, open_numbers, places_where, waits}
use Rattle.mail_store.specs.private.Queue.{PutsUnsettled}
use Rattle.mail_store.proofs.ChangeLemmas.{slice_get_within}

pub slice_get_below : {T : Type 0} (xs : List T) (i : ℕ) (x : T) → slice_get xs i ≡ Some x → i < length xs
slice_get_below xs i x e = slice_get_within xs i (λ none. none-some x (sym none ∙ e))

zip-push : {A B : Type 0} (R : A → B → Type 0) (xs : List A) (ys : List B) (x : A) (y : B) → AllZip R xs ys → R x y → AllZip R (xs ++ x ∷ []) (ys ++ y ∷ [])
zip-push R [] [] x y h r = (r, tt)
zip-push R [] (b ∷ ys) x y h r = absurd h
zip-push R (a ∷ xs) [] x y h r = absurd h
zip-push R (a ∷ xs) (b ∷ ys) x y h r = (h.0, zip-push R xs ys x y h.1 r)

-- ---- places

module _ {T : Type 0} (test : T → Bool) where
  pub places-push : (at : ℕ) (xs : List T) (x : T) → places_where test at (xs ++ x ∷ []) ≡ places_where test at xs ++ cond (test x) ((at + length xs) ∷ []) []
  places-push at [] x =
      let here : at ≡ at + 0 = omega arith in
      ap (λ (n : ℕ). cond (test x) (n ∷ []) []) here
  places-push at (y ∷ xs) x =
      let there : at + 1 + length xs ≡ at + suc (length xs) = omega arith in
      let more = places-push (at + 1) xs x ∙ ap (λ (n : ℕ). places_where test (at + 1) xs ++ cond (test x) (n ∷ []) []) there in
      elim (cases_Bool (test y)) [
        | inl here ↦ rw here (ap (λ l. at ∷ l) more)
        | inr other ↦ rw other more
      ]

  places_below : (n at : ℕ) (xs : List T) → at + length xs ≤ n → AllByRecursion (λ k. k < n) (places_where test at xs)
  places_below n at [] within = tt
  places_below n at (x ∷ xs) within =
      let rest = places_below n (at + 1) xs (omega (arith, within)) in
      elim (cases_Bool (test x)) [
        | inl here ↦ rw here (omega (arith, within), rest)
        | inr other ↦ rw other rest
      ]

numbers_below : (es : List Entry) → AllByRecursion (λ k. k < length es) (open_numbers es)
numbers_below es = places_below is_open (length es) 0 es (omega arith)

-- ---- entries that may be kept

pub kept-queued : (kept : Kept) (path : List ℕ) (addresses : List (List ℕ)) (octets : List ℕ) (entry : Entry) → CanWait kept path addresses → IsStored octets
    → entry ≡ record { path = path; recipients = map waiting addresses; octets = octets } → IsKeptEntry entry
kept-queued kept path addresses octets entry order stored is =
    subst IsKeptEntry (sym is) (record {
      path = order.0;
      addresses = All-map (λ (recipient : Recipient). IsKeptAddress recipient.address) waiting addresses order.1;
      stored = stored;
    })

abbrev has_address : Recipient → Type 0
has_address recipient = IsKeptAddress recipient.address

addresses_kept : (rs : List Recipient) (index : ℕ) → AllByRecursion has_address rs → AllByRecursion has_address (change_at settled rs index)
addresses_kept [] index h = tt
addresses_kept (r ∷ rs) zero h = h
addresses_kept (r ∷ rs) (suc index) h = (h.0, addresses_kept rs index h.1)

entry_kept : (index : ℕ) (e : Entry) → IsKeptEntry e → IsKeptEntry (without index e)
entry_kept index e h = record {
  path = h.path;
  addresses = All-from_recursion has_address (change_at settled e.recipients index) (addresses_kept e.recipients index (recursion_from_All has_address e.recipients h.addresses));
  stored = h.stored;
}

entries_kept : (index : ℕ) (es : List Entry) (at : ℕ) → AllByRecursion IsKeptEntry es → AllByRecursion IsKeptEntry (change_at (without index) es at)
entries_kept index [] at h = tt
entries_kept index (e ∷ es) zero h = (entry_kept index e h.0, h.1)
entries_kept index (e ∷ es) (suc at) h = (h.0, entries_kept index es at h.1)

pub kept-settled : (index : ℕ) (es : List Entry) (at : ℕ) → All IsKeptEntry es → All IsKeptEntry (change_at (without index) es at)
kept-settled index es at h = All-from_recursion IsKeptEntry (change_at (without index) es at) (entries_kept index es at (recursion_from_All IsKeptEntry es h))

-- ---- what is told

abbrev places_of : List Recipient → List ℕ
places_of rs = places_where waits 0 rs

pub unsettled-step : (rs : List Recipient) (i : ℕ) (r : Recipient) (old new : List Unsettled) → i < length rs → r ≡ get_or rs i r → PutsUnsettled old new i r
    → AllZip (IsUnsettledAt rs) (places_where waits 0 (take i rs)) old → AllZip (IsUnsettledAt rs) (places_where waits 0 (take (i + 1) rs)) new
unsettled-step rs i r old new within is p h =
    let len : 0 + length (take i rs) ≡ i = omega (arith, length-take-le i rs (omega (arith, within))) in
    let more : places_of (take (i + 1) rs) ≡ places_of (take i rs) ++ cond r.waits (i ∷ []) [] =
    ap places_of (take_more rs i r within ∙ ap (λ (x : Recipient). take i rs ++ x ∷ []) (sym is)) ∙ places-push waits 0 (take i rs) r
    ∙ ap (λ (n : ℕ). places_of (take i rs) ++ cond r.waits (n ∷ []) []) len in
    subst (λ ps. AllZip (IsUnsettledAt rs) ps new) (sym more)
    (elim (cases_Bool r.waits) [
      | inl still ↦
          let told = p.waiting still in
          rw (still, told.put) (zip-push (IsUnsettledAt rs) (places_of (take i rs)) old i told.one h (record {
            recipient = r;
            there = slice_get-get_or rs i r within ∙ ap (λ (x : Recipient). Some x) (sym is);
            index_is = told.index_is;
            address_is = told.address_is;
          }))
      | inr done ↦ rw (done, p.settled done, append-nil (places_of (take i rs))) h
    ])

-- what a loop over the open entries keeps
pub record IsTelling (es : List Entry) (numbers rest : List ℕ) (queue : List Queued) : Type 0 where
  pub within : AllByRecursion (λ number. number < length es) rest
  pub goes : (more : List Queued) → AllZip (IsQueuedAt es) rest more → AllZip (IsQueuedAt es) numbers (queue ++ more)

pub telling-begins : (es : List Entry) (numbers : List ℕ) → numbers ≡ open_numbers es → IsTelling es numbers numbers []
telling-begins es numbers is = record {
  within = subst (AllByRecursion (λ number. number < length es)) (sym is) (numbers_below es);
  goes = λ more h. h;
}

pub telling-within : (es : List Entry) (numbers rest left : List ℕ) (queue : List Queued) (number : ℕ) → IsTelling es numbers rest queue → rest ≡ number ∷ left → number < length es
telling-within es numbers rest left queue number t is = (subst (AllByRecursion (λ number. number < length es)) is t.within).0

pub telling-step : (es : List Entry) (numbers rest left : List ℕ) (old new : List Queued) (number : ℕ) (e : Entry) (one : Queued) → IsTelling es numbers rest old → rest ≡ number ∷ left
    → e ≡ get_or es number e → IsQueued number e one → new ≡ old ++ one ∷ [] → IsTelling es numbers left new
telling-step es numbers rest left old new number e one t is at q put =
    let within = subst (AllByRecursion (λ number. number < length es)) is t.within in
    let told : IsQueuedAt es number one = record {
      entry = e;
      there = slice_get-get_or es number e within.0 ∙ ap (λ (x : Entry). Some x) (sym at);
      queued = q;
    } in
    record {
      within = within.1;
      goes = λ more h.
          subst (AllZip (IsQueuedAt es) numbers) (sym (ap (λ (l : List Queued). l ++ more) put ∙ append_assoc old (one ∷ []) more))
          (t.goes (one ∷ more) (subst (λ (l : List ℕ). AllZip (IsQueuedAt es) l (one ∷ more)) (sym is) (told, h)));
    }

pub telling-ends : (es : List Entry) (numbers rest : List ℕ) (queue : List Queued) → IsTelling es numbers rest queue → rest ≡ [] → numbers ≡ open_numbers es → IsQueue es queue
telling-ends es numbers rest queue t none is =
    subst (λ (l : List ℕ). AllZip (IsQueuedAt es) l queue) is
    (subst (AllZip (IsQueuedAt es) numbers) (append-nil queue) (t.goes [] (subst (λ (l : List ℕ). AllZip (IsQueuedAt es) l []) (sym none) tt)))

pub few_in : (es : List Entry) (n : ℕ) (e : Entry) → n < length es → e ≡ get_or es n e → length e.recipients ≤ recipient_count es
few_in [] n e within is = absurd (omega (arith, within))
few_in (x ∷ es) zero e within is =
    let whole = sum_by-cons (λ (y : Entry). length y.recipients) x es in
    let same = ap (λ (y : Entry). length y.recipients) is in
    omega (arith, whole, same)
few_in (x ∷ es) (suc n) e within is =
    let whole = sum_by-cons (λ (y : Entry). length y.recipients) x es in
    let ih = few_in es n e (omega (arith, within)) is in
    omega (arith, whole, ih)

path_comes : (text : List ℕ) (path : Option Address) → IsTextOfPath text path → IfSome path ComesInPath
path_comes text None h = tt
path_comes text (Some address) h = (in_angles text, h)

all_come : (rs : List Recipient) (places : List ℕ) (all : List Unsettled) → AllZip (IsUnsettledAt rs) places all → AllByRecursion (λ (one : Unsettled). ComesInPath one.address) all
all_come rs [] [] h = tt
all_come rs [] (one ∷ all) h = absurd h
all_come rs (place ∷ places) [] h = absurd h
all_come rs (place ∷ places) (one ∷ all) h = ((in_angles h.0.recipient.address, h.0.address_is), all_come rs places all h.1)

have_paths : (es : List Entry) (numbers : List ℕ) (queue : List Queued) → AllZip (IsQueuedAt es) numbers queue → AllByRecursion HasPaths queue
have_paths es [] [] h = tt
have_paths es [] (one ∷ queue) h = absurd h
have_paths es (number ∷ numbers) [] h = absurd h
have_paths es (number ∷ numbers) (one ∷ queue) h =
    let q = h.0.queued in (
      record {
        path = path_comes h.0.entry.path one.path q.path_is;
        unsettled = All-from_recursion (λ (u : Unsettled). ComesInPath u.address) one.unsettled (all_come h.0.entry.recipients (places_of h.0.entry.recipients) one.unsettled q.unsettled_are);
      },
      have_paths es numbers queue h.1,
    )

queue_paths : (es : List Entry) (queue : List Queued) → IsQueue es queue → All HasPaths queue
queue_paths es queue h = All-from_recursion HasPaths queue (have_paths es (open_numbers es) queue h)

are_known : (es : List Entry) (numbers : List ℕ) (queue : List Queued) → AllZip (IsQueuedAt es) numbers queue → AllByRecursion (λ (one : Queued). one.entry < length es) queue
are_known es [] [] h = tt
are_known es [] (one ∷ queue) h = absurd h
are_known es (number ∷ numbers) [] h = absurd h
are_known es (number ∷ numbers) (one ∷ queue) h =
    let within = slice_get_below es number h.0.entry h.0.there in
    (omega (arith, within, h.0.queued.number_is), are_known es numbers queue h.1)

queue_known : (es : List Entry) (queue : List Queued) → IsQueue es queue → All (λ (one : Queued). one.entry < length es) queue
queue_known es queue h = All-from_recursion (λ (one : Queued). one.entry < length es) queue (are_known es (open_numbers es) queue h)

pub told_known : (result : Result (List Queued) Memory) (es : List Entry) → IfOk result (IsQueue es) → IfOk result (λ queue. All (λ (one : Queued). one.entry < length es) queue)
told_known (Ok queue) es h = queue_known es queue h
told_known (Err memory) es h = tt

pub told_paths : (result : Result (List Queued) Memory) (es : List Entry) → IfOk result (IsQueue es) → IfOk result (λ queue. All HasPaths queue)
told_paths (Ok queue) es h = queue_paths es queue h
told_paths (Err memory) es h = tt

-- ---- the record of a recipient who is done with

pub AreRecords-settle : (kept : Kept) (entry index : ℕ) → IsUnsettled (slice_get kept.entries entry) index → entry < 2 ^ 32 → index < 2 ^ 32 → AreRecords versions.Two kept (records.Settle entry index ∷ [])
AreRecords-settle kept entry index waits small few = (record { fits = (small, few); short = omega arith; of_version = tt; in_order = waits }, tt)
