-- What is known of a queue that was told, and what changes of the store leave of that.
use Rattle.std.proofs.Common.{◌≡◌, ℕ, zero, suc, ◌+◌, ◌<◌, ◌≤◌, Bool, true, false, List, [], ◌∷◌, ◌++◌, length, map, Option, Some, Ok, refl, sym, ap, ap₂, subst, ◌∙◌, arith, inl, inr}
use Rattle.std.specs.Prelude.{slice_get}
use Rattle.std.specs.List.{AllByRecursion, AllZip}
use Rattle.std.specs.List.Sorted.{IsStrictlyIncreasing}
use Rattle.std.specs.Option.{option_map_or}
use Rattle.std.proofs.lemmas.Bool.{cases_eq, false≢true}
use Rattle.std.proofs.lemmas.List.{length-append}
use Rattle.std.proofs.lemmas.List.Elements.{All-from_recursion, recursion_from_All}
use Rattle.std.proofs.lemmas.Option.{slice_get_within}
use Rattle.journal_records.specs.declared.records.Record.{Record}
use Rattle.journal_records.specs.declared.records.Record.TheVariants as records
use Rattle.kept_mail.specs.Kept.{Kept, after_all, after_record, change_at, name_of, settled, without}
use Rattle.kept_mail.specs.declared.kept.Entry.{Entry}
use Rattle.kept_mail.specs.declared.kept.Recipient.{Recipient}
use Rattle.kept_mail.proofs.SameMessages.{length-change_at}
use Rattle.mail_store.specs.Changing.{is_unsettled}
use Rattle.mail_store.specs.Queue.{HasPaths, IsQueue, IsQueuedAt, IsUnsettledAt, is_open, open_numbers, places_where, waits}
use Rattle.mail_store.specs.declared.queue.Queued.{Queued}
use Rattle.mail_store.specs.declared.queue.Unsettled.{Unsettled}
use Rattle.mail_store.proofs.QueueLemmas.{told_paths}
use Rattle.relay_session.specs.MailObjects.{entry_octets, messages_of}
use Rattle.relay_session.specs.private.Acting.{AreKnown, AreOpenFrom, IsKnownEntry, IsOpenIn}
use Rattle.relay_session.proofs.RisingPlaces.{places_increase, places_pass}

-- ---- what is told of a queue

abbrev number_of : Queued → ℕ
number_of queued = queued.entry

abbrev index_of : Unsettled → ℕ
index_of one = one.index

indexes_are : (rs : List Recipient) (places : List ℕ) (all : List Unsettled) → AllZip (IsUnsettledAt rs) places all → map index_of all ≡ places
indexes_are rs [] [] told = refl
indexes_are rs [] (one ∷ all) told = absurd told
indexes_are rs (place ∷ places) [] told = absurd told
indexes_are rs (place ∷ places) (one ∷ all) told = ap₂ (λ (n : ℕ) (ns : List ℕ). n ∷ ns) told.0.index_is (indexes_are rs places all told.1)

numbers_are : (es : List Entry) (numbers : List ℕ) (queue : List Queued) → AllZip (IsQueuedAt es) numbers queue → map number_of queue ≡ numbers
numbers_are es [] [] told = refl
numbers_are es [] (queued ∷ queue) told = absurd told
numbers_are es (number ∷ numbers) [] told = absurd told
numbers_are es (number ∷ numbers) (queued ∷ queue) told = ap₂ (λ (n : ℕ) (ns : List ℕ). n ∷ ns) told.0.queued.number_is (numbers_are es numbers queue told.1)

known_each : (kept : Kept) (numbers : List ℕ) (queue : List Queued) → AllZip (IsQueuedAt kept.entries) numbers queue → AllByRecursion HasPaths queue → AllByRecursion (IsKnownEntry kept) queue
known_each kept [] [] told paths = tt
known_each kept [] (queued ∷ queue) told paths = absurd told
known_each kept (number ∷ numbers) [] told paths = absurd told
known_each kept (number ∷ numbers) (queued ∷ queue) told paths =
    let entry = told.0.entry in
    let within = slice_get_within kept.entries number entry told.0.there in
    let number_is = told.0.queued.number_is in
    let places = indexes_are entry.recipients (places_where waits 0 entry.recipients) queued.unsettled told.0.queued.unsettled_are in (
      record {
        there = omega (arith, within, number_is);
        paths = paths.0;
        rising = subst IsStrictlyIncreasing (sym places) (places_increase waits entry.recipients);
      },
      known_each kept numbers queue told.1 paths.1,
    )

-- what is told of a queue is known
pub are_known : (kept : Kept) (queue : List Queued) → IsQueue kept.entries queue → AreKnown kept queue
are_known kept queue told = record {
  each = All-from_recursion (IsKnownEntry kept) queue
      (known_each kept (open_numbers kept.entries) queue told (recursion_from_All HasPaths queue (told_paths (Ok queue) kept.entries told)));
  rising = subst IsStrictlyIncreasing (sym (numbers_are kept.entries (open_numbers kept.entries) queue told)) (places_increase is_open kept.entries);
}

-- what holds of the places holds of those who are told
told_each : (Q : ℕ → Type 0) (rs : List Recipient) (places : List ℕ) (all : List Unsettled) → AllZip (IsUnsettledAt rs) places all → AllByRecursion Q places
    → AllByRecursion (λ (one : Unsettled). Q one.index) all
told_each Q rs [] [] told holds = tt
told_each Q rs [] (one ∷ all) told holds = absurd told
told_each Q rs (place ∷ places) [] told holds = absurd told
told_each Q rs (place ∷ places) (one ∷ all) told holds = (subst Q (sym told.0.index_is) holds.0, told_each Q rs places all told.1 holds.1)

unsettled_at : (kept : Kept) (number index : ℕ) (entry : Entry) (recipient : Recipient) → slice_get kept.entries number ≡ Some entry → slice_get entry.recipients index ≡ Some recipient
    → recipient.waits ≡ true → is_unsettled kept number index ≡ true
unsettled_at kept number index entry recipient there at still = rw (there, at) still

open_each : (kept : Kept) (numbers : List ℕ) (queue : List Queued) → AllZip (IsQueuedAt kept.entries) numbers queue → AllByRecursion (IsOpenIn kept) queue
open_each kept [] [] told = tt
open_each kept [] (queued ∷ queue) told = absurd told
open_each kept (number ∷ numbers) [] told = absurd told
open_each kept (number ∷ numbers) (queued ∷ queue) told =
    let entry = told.0.entry in
    let there : slice_get kept.entries queued.entry ≡ Some entry = ap (slice_get kept.entries) told.0.queued.number_is ∙ told.0.there in
    let Still = λ (index : ℕ). is_unsettled kept queued.entry index ≡ true in
    let places : AllByRecursion Still (places_where waits 0 entry.recipients) =
    places_pass waits Still 0 entry.recipients (λ i recipient at still.
    (let plain : i ≡ 0 + i = omega arith in subst Still plain (unsettled_at kept queued.entry i entry recipient there at still))) in (
      All-from_recursion (λ (one : Unsettled). Still one.index) queued.unsettled
          (told_each Still entry.recipients (places_where waits 0 entry.recipients) queued.unsettled told.0.queued.unsettled_are places),
      open_each kept numbers queue told.1,
    )

-- all who are told wait
pub are_open : (kept : Kept) (queue : List Queued) → IsQueue kept.entries queue → AreOpenFrom kept queue 0
are_open kept queue told = All-from_recursion (IsOpenIn kept) queue (open_each kept (open_numbers kept.entries) queue told)

-- ---- what stands at a place of a changed list

changed_kept : {T U : Type 0} (f : T → U) (d : U) (change : T → T) → ((x : T) → f (change x) ≡ f x) → (xs : List T) (at k : ℕ)
    → option_map_or f (slice_get (change_at change xs at) k) d ≡ option_map_or f (slice_get xs k) d
changed_kept f d change keeps [] at k = refl
changed_kept f d change keeps (x ∷ xs) zero zero = keeps x
changed_kept f d change keeps (x ∷ xs) zero (suc k) = refl
changed_kept f d change keeps (x ∷ xs) (suc at) zero = refl
changed_kept f d change keeps (x ∷ xs) (suc at) (suc k) = changed_kept f d change keeps xs at k

changed_elsewhere : {T : Type 0} (change : T → T) (xs : List T) (at k : ℕ) → (at ≡ k → ⊥) → slice_get (change_at change xs at) k ≡ slice_get xs k
changed_elsewhere change [] at k other = refl
changed_elsewhere change (x ∷ xs) zero zero other = absurd (other refl)
changed_elsewhere change (x ∷ xs) zero (suc k) other = refl
changed_elsewhere change (x ∷ xs) (suc at) zero other = refl
changed_elsewhere change (x ∷ xs) (suc at) (suc k) other = changed_elsewhere change xs at k (λ same. other (ap suc same))

front_stays : {T : Type 0} (f : T → Bool) (xs ys : List T) (k : ℕ) → option_map_or f (slice_get xs k) false ≡ true → option_map_or f (slice_get (xs ++ ys) k) false ≡ true
front_stays f [] ys k holds = absurd (false≢true holds)
front_stays f (x ∷ xs) ys zero holds = holds
front_stays f (x ∷ xs) ys (suc k) holds = front_stays f xs ys k holds

front_same : {T U : Type 0} (f : T → U) (d : U) (xs ys : List T) (k : ℕ) → k < length xs → option_map_or f (slice_get (xs ++ ys) k) d ≡ option_map_or f (slice_get xs k) d
front_same f d [] ys k within = absurd (omega (arith, within))
front_same f d (x ∷ xs) ys zero within = refl
front_same f d (x ∷ xs) ys (suc k) within = front_same f d xs ys k (omega (arith, within))

-- ---- what stays of a store

-- Entries stay with their octets, and so does the name of the server.
pub record StandsOn (old new : Kept) : Type 0 where
  pub longer : length old.entries ≤ length new.entries
  pub octets : (number : ℕ) → number < length old.entries → entry_octets new number ≡ entry_octets old number
  pub name : name_of new ≡ name_of old

pub StandsOn-same : (kept : Kept) → StandsOn kept kept
StandsOn-same kept = record { longer = omega arith; octets = λ number there. refl; name = refl }

pub StandsOn-then : (old mid new : Kept) → StandsOn old mid → StandsOn mid new → StandsOn old new
StandsOn-then old mid new one two = record {
  longer = let first = one.longer in let more = two.longer in omega (arith, first, more);
  octets = λ number there. (let longer = one.longer in two.octets number (omega (arith, there, longer)) ∙ one.octets number there);
  name = two.name ∙ one.name;
}

-- a record that adds no domain, which may be the first and so the name
abbrev pub AddsNoDomain : Record → Type 0
AddsNoDomain (records.Domain name) = ⊥
AddsNoDomain other = Unit {0}

grows : (xs ys : List Entry) → length xs ≤ length (xs ++ ys)
grows xs ys = let count = length-append xs ys in omega (arith, count)

stands_plainly : (old new : Kept) → new.entries ≡ old.entries → new.domains ≡ old.domains → StandsOn old new
stands_plainly old new entries domains = record {
  longer = let same = ap length entries in omega (arith, same);
  octets = λ number there. ap (λ (es : List Entry). option_map_or (λ (entry : Entry). entry.octets) (slice_get es number) []) entries;
  name = rw domains refl;
}

pub StandsOn-record : (kept : Kept) (one : Record) → AddsNoDomain one → StandsOn kept (after_record kept one)
StandsOn-record kept (records.Account address password) none = stands_plainly kept (after_record kept (records.Account address password)) refl refl
StandsOn-record kept (records.Domain name) none = absurd none
StandsOn-record kept (records.Folder account name) none = stands_plainly kept (after_record kept (records.Folder account name)) refl refl
StandsOn-record kept (records.Message folder flags mark date octets) none = stands_plainly kept (after_record kept (records.Message folder flags mark date octets)) refl refl
StandsOn-record kept (records.Flags message flags) none = stands_plainly kept (after_record kept (records.Flags message flags)) refl refl
StandsOn-record kept (records.Expunge message) none = stands_plainly kept (after_record kept (records.Expunge message)) refl refl
StandsOn-record kept (records.Queue path addresses mark octets) none = record {
  longer = grows kept.entries _;
  octets = λ number there. front_same (λ (entry : Entry). entry.octets) [] kept.entries _ number there;
  name = refl;
}
StandsOn-record kept (records.Settle entry index) none = record {
  longer = let count = length-change_at (without index) kept.entries entry in omega (arith, count);
  octets = λ number there. changed_kept (λ (one : Entry). one.octets) [] (without index) (λ one. refl) kept.entries entry number;
  name = refl;
}
StandsOn-record kept records.Version none = StandsOn-same kept

pub StandsOn-records : (kept : Kept) (all : List Record) → AllByRecursion AddsNoDomain all → StandsOn kept (after_all kept all)
StandsOn-records kept [] none = StandsOn-same kept
StandsOn-records kept (one ∷ all) none =
    StandsOn-then kept (after_record kept one) (after_all (after_record kept one) all) (StandsOn-record kept one none.0) (StandsOn-records (after_record kept one) all none.1)

-- what is known of an entry stays so
pub IsKnown-on : (old new : Kept) (queued : Queued) → StandsOn old new → IsKnownEntry old queued → IsKnownEntry new queued
IsKnown-on old new queued stands known = record {
  there = let within = known.there in let longer = stands.longer in omega (arith, within, longer);
  paths = known.paths;
  rising = known.rising;
}

pub AreKnown-on : (old new : Kept) (queue : List Queued) → StandsOn old new → AreKnown old queue → AreKnown new queue
AreKnown-on old new queue stands known = record {
  each = λ k d within. IsKnown-on old new _ stands (known.each k d within);
  rising = known.rising;
}

messages_same : (old new : Kept) (queue : List Queued) → StandsOn old new → AllByRecursion (IsKnownEntry old) queue → messages_of new queue ≡ messages_of old queue
messages_same old new [] stands known = refl
messages_same old new (queued ∷ queue) stands known =
    ap₂ (λ (m : List ℕ) (ms : List (List ℕ)). m ∷ ms) (stands.octets queued.entry known.0.there) (messages_same old new queue stands known.1)

pub messages_of-on : (old new : Kept) (queue : List Queued) → StandsOn old new → AreKnown old queue → messages_of new queue ≡ messages_of old queue
messages_of-on old new queue stands known = messages_same old new queue stands (recursion_from_All (IsKnownEntry old) queue known.each)

-- ---- who still waits

-- the record settles another recipient, or none
abbrev pub Spares : (entry index : ℕ) → Record → Type 0
Spares entry index (records.Settle other at) = other ≡ entry → at ≡ index → ⊥
Spares entry index other = Unit {0}

settled_elsewhere : (kept : Kept) (entry index other at : ℕ) → (other ≡ entry → at ≡ index → ⊥) → is_unsettled (after_record kept (records.Settle other at)) entry index ≡ is_unsettled kept entry index
settled_elsewhere kept entry index other at spares =
    let still = λ (one : Entry). option_map_or (λ (recipient : Recipient). recipient.waits) (slice_get one.recipients index) false in
    elim (cases_eq other entry) [
      | inl same ↦
          changed_kept still false (without at)
          (λ one. ap (λ (o : Option Recipient). option_map_or (λ (recipient : Recipient). recipient.waits) o false) (changed_elsewhere settled one.recipients at index (spares same)))
          kept.entries other entry
      | inr differ ↦ ap (λ (o : Option Entry). option_map_or still o false) (changed_elsewhere (without at) kept.entries other entry differ)
    ]

pub unsettled_after : (kept : Kept) (one : Record) (entry index : ℕ) → Spares entry index one → is_unsettled kept entry index ≡ true → is_unsettled (after_record kept one) entry index ≡ true
unsettled_after kept (records.Account address password) entry index spares still = still
unsettled_after kept (records.Domain name) entry index spares still = still
unsettled_after kept (records.Folder account name) entry index spares still = still
unsettled_after kept (records.Message folder flags mark date octets) entry index spares still = still
unsettled_after kept (records.Flags message flags) entry index spares still = still
unsettled_after kept (records.Expunge message) entry index spares still = still
unsettled_after kept (records.Queue path addresses mark octets) entry index spares still =
    front_stays (λ (one : Entry). option_map_or (λ (recipient : Recipient). recipient.waits) (slice_get one.recipients index) false) kept.entries _ entry still
unsettled_after kept (records.Settle other at) entry index spares still = settled_elsewhere kept entry index other at spares ∙ still
unsettled_after kept records.Version entry index spares still = still

pub unsettled_after_all : (kept : Kept) (all : List Record) (entry index : ℕ) → AllByRecursion (Spares entry index) all → is_unsettled kept entry index ≡ true
    → is_unsettled (after_all kept all) entry index ≡ true
unsettled_after_all kept [] entry index spares still = still
unsettled_after_all kept (one ∷ all) entry index spares still =
    unsettled_after_all (after_record kept one) all entry index spares.1 (unsettled_after kept one entry index spares.0 still)

-- an entry none of whose recipients is settled stays open
pub IsOpenIn-records : (kept : Kept) (all : List Record) (queued : Queued) → ((index : ℕ) → AllByRecursion (Spares queued.entry index) all) → IsOpenIn kept queued → IsOpenIn (after_all kept all) queued
IsOpenIn-records kept all queued spares still = λ k d within. unsettled_after_all kept all queued.entry _ (spares _) (still k d within)
