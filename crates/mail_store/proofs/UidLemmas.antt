-- The UIDs of a folder rise, and what comes later leaves them.
use Rattle.std.proofs.Common.{◌≡◌, ◌⊎◌, inl, inr, ℕ, zero, suc, ◌+◌, ◌<◌, ◌≤◌, List, [], ◌∷◌, ◌++◌, length, Bool, true, false, cond, arith, refl, sym, ap, subst, ◌∙◌}
use Rattle.std.specs.Prelude.{◌==◌, map, count_by, slice_index}
use Rattle.std.specs.List.{Any, AllByRecursion}
use Rattle.std.specs.List.Sorted.{IsStrictlyIncreasing}
use Rattle.std.proofs.lemmas.List.Sums.{sum_by-cons}
use Rattle.kept_mail.specs.declared.kept.Message.{Message}
use Rattle.kept_mail.specs.declared.kept.Listed.{Listed}
use Rattle.journal_records.specs.declared.records.Record.{Record}
use Rattle.journal_records.specs.declared.records.Record.TheVariants as records
use Rattle.kept_mail.specs.Kept.{Kept, change_at, with_flags, gone, after_record, after_all, uid_next, listed_from, listed, IsListedOrNew}
use Rattle.mail_store.proofs.ListedLemmas.{put, all_put, from_on, id_of}

abbrev uid_of : Listed → ℕ
uid_of one = one.uid

-- how many messages of these the folder ever had
abbrev count_in : ℕ → List Message → ℕ
count_in folder [] = 0
count_in folder (m ∷ ms) = cond (m.folder == folder) 1 0 + count_in folder ms

count_is : (folder : ℕ) (ms : List Message) → count_by (λ (message : Message). message.folder == folder) ms ≡ count_in folder ms
count_is folder [] = refl
count_is folder (m ∷ ms) =
    sum_by-cons (λ (message : Message). cond (message.folder == folder) 1 0) m ms ∙ ap (λ (n : ℕ). cond (m.folder == folder) 1 0 + n) (count_is folder ms)

next_is : (kept : Kept) (folder : ℕ) → uid_next kept folder ≡ 1 + count_in folder kept.messages
next_is kept folder =
    let count = count_is folder kept.messages in
    omega (arith, count)

-- ---- UIDs rise

-- the UIDs of a listing are this one or greater
uids_on : (folder at uid low : ℕ) (ms : List Message) → low ≤ uid → AllByRecursion (λ one. low ≤ one.uid) (listed_from folder at uid ms)
uids_on folder at uid low [] few = tt
uids_on folder at uid low (m ∷ ms) few =
    all_put (λ one. low ≤ one.uid) (m.folder == folder) m.live (record { id = at; uid = uid; flags = m.flags }) _ _ (λ is. few)
    (uids_on folder (at + 1) (uid + 1) low ms (omega (arith, few))) (uids_on folder (at + 1) uid low ms few)

rising : (number : Listed → ℕ) (x : ℕ) (others : List Listed) → AllByRecursion (λ one. x + 1 ≤ number one) others → IsStrictlyIncreasing (map number others) → IsStrictlyIncreasing (x ∷ map number others)
rising number x [] above rest = λ k less. absurd (omega (arith, less))
rising number x (one ∷ others) above rest = first
  where
    first : (k : ℕ) → k + 1 < length (x ∷ map number (one ∷ others)) → slice_index (x ∷ map number (one ∷ others)) k < slice_index (x ∷ map number (one ∷ others)) (k + 1)
    first zero less = omega (arith, above.0)
    first (suc k) less =
        let place : suc k + 1 ≡ suc (k + 1) = omega arith in
        subst (λ (n : ℕ). slice_index (x ∷ map number (one ∷ others)) (suc k) < slice_index (x ∷ map number (one ∷ others)) n) (sym place) (rest k (omega (arith, less)))

rising_put : (number : Listed → ℕ) (here live : Bool) (one : Listed) (others more : List Listed) → AllByRecursion (λ other. number one + 1 ≤ number other) others
    → IsStrictlyIncreasing (map number others) → IsStrictlyIncreasing (map number more) → IsStrictlyIncreasing (map number (put here live one others more))
rising_put number false live one others more above rest same = same
rising_put number true false one others more above rest same = rest
rising_put number true true one others more above rest same = rising number (number one) others above rest

rise_from : (folder at uid : ℕ) (ms : List Message) → IsStrictlyIncreasing (map uid_of (listed_from folder at uid ms))
rise_from folder at uid [] = λ k less. absurd (omega (arith, less))
rise_from folder at uid (m ∷ ms) =
    rising_put uid_of (m.folder == folder) m.live (record { id = at; uid = uid; flags = m.flags }) _ _
    (uids_on folder (at + 1) (uid + 1) (uid + 1) ms (omega arith)) (rise_from folder (at + 1) (uid + 1) ms) (rise_from folder (at + 1) uid ms)

pub uids_rise : (kept : Kept) (folder : ℕ) → IsStrictlyIncreasing (map (λ (one : Listed). one.uid) (listed kept folder))
uids_rise kept folder = rise_from folder 0 1 kept.messages

-- ---- numbers rise

ids_from : (folder at uid : ℕ) (ms : List Message) → IsStrictlyIncreasing (map id_of (listed_from folder at uid ms))
ids_from folder at uid [] = λ k less. absurd (omega (arith, less))
ids_from folder at uid (m ∷ ms) =
    rising_put id_of (m.folder == folder) m.live (record { id = at; uid = uid; flags = m.flags }) _ _
    (from_on folder (at + 1) (uid + 1) (at + 1) ms (omega arith)) (ids_from folder (at + 1) (uid + 1) ms) (ids_from folder (at + 1) uid ms)

pub ids_rise : (kept : Kept) (folder : ℕ) → IsStrictlyIncreasing (map (λ (one : Listed). one.id) (listed kept folder))
ids_rise kept folder = ids_from folder 0 1 kept.messages

-- ---- UIDs are below the next one

all_as : (P Q : Listed → Type 0) → ((one : Listed) → P one → Q one) → (all : List Listed) → AllByRecursion P all → AllByRecursion Q all
all_as P Q so [] each = tt
all_as P Q so (one ∷ others) each = (so one each.0, all_as P Q so others each.1)

below_put : (here live : Bool) (one : Listed) (others more : List Listed) (uid n : ℕ) → one.uid ≡ uid
    → AllByRecursion (λ other. other.uid < uid + 1 + n) others → AllByRecursion (λ other. other.uid < uid + n) more
    → AllByRecursion (λ other. other.uid < uid + (cond here 1 0 + n)) (put here live one others more)
below_put false live one others more uid n is rest same = all_as (λ other. other.uid < uid + n) (λ other. other.uid < uid + (0 + n)) (λ other less. omega (arith, less)) more same
below_put true false one others more uid n is rest same = all_as (λ other. other.uid < uid + 1 + n) (λ other. other.uid < uid + (1 + n)) (λ other less. omega (arith, less)) others rest
below_put true true one others more uid n is rest same =
    (omega (arith, is), all_as (λ other. other.uid < uid + 1 + n) (λ other. other.uid < uid + (1 + n)) (λ other less. omega (arith, less)) others rest)

below_from : (folder at uid : ℕ) (ms : List Message) → AllByRecursion (λ one. one.uid < uid + count_in folder ms) (listed_from folder at uid ms)
below_from folder at uid [] = tt
below_from folder at uid (m ∷ ms) =
    below_put (m.folder == folder) m.live (record { id = at; uid = uid; flags = m.flags }) _ _ uid (count_in folder ms) refl
    (below_from folder (at + 1) (uid + 1) ms) (below_from folder (at + 1) uid ms)

pub uids_below : (kept : Kept) (folder : ℕ) → AllByRecursion (λ one. one.uid < uid_next kept folder) (listed kept folder)
uids_below kept folder =
    let next = next_is kept folder in
    all_as (λ one. one.uid < 1 + count_in folder kept.messages) (λ one. one.uid < uid_next kept folder) (λ one less. omega (arith, less, next)) (listed kept folder) (below_from folder 0 1 kept.messages)

-- ---- what comes later

-- the messages stand in a later list at the same places and in the same folders, and none lives again
abbrev AreKept : List Message → List Message → Type 0
AreKept [] new = Unit {0}
AreKept (m ∷ ms) [] = ⊥
AreKept (m ∷ ms) (n ∷ ns) = (n.folder ≡ m.folder) × (n.live ≡ true → m.live ≡ true) × AreKept ms ns

kept_same : (ms : List Message) → AreKept ms ms
kept_same [] = tt
kept_same (m ∷ ms) = (refl, λ lives. lives, kept_same ms)

kept_more : (ms more : List Message) → AreKept ms (ms ++ more)
kept_more [] more = tt
kept_more (m ∷ ms) more = (refl, λ lives. lives, kept_more ms more)

kept_changed : (change : Message → Message) → ((m : Message) → (change m).folder ≡ m.folder) → ((m : Message) → (change m).live ≡ true → m.live ≡ true)
    → (ms : List Message) (at : ℕ) → AreKept ms (change_at change ms at)
kept_changed change stays dies [] at = tt
kept_changed change stays dies (m ∷ ms) zero = (stays m, dies m, kept_same ms)
kept_changed change stays dies (m ∷ ms) (suc at) = (refl, λ lives. lives, kept_changed change stays dies ms at)

kept_on : (a b c : List Message) → AreKept a b → AreKept b c → AreKept a c
kept_on [] b c first more = tt
kept_on (x ∷ a) [] c first more = absurd first
kept_on (x ∷ a) (y ∷ b) [] first more = absurd more
kept_on (x ∷ a) (y ∷ b) (z ∷ c) first more = (more.0 ∙ first.0, λ lives. first.1 (more.1 lives), kept_on a b c first.2 more.2)

kept_after : (kept : Kept) (one : Record) → AreKept kept.messages (after_record kept one).messages
kept_after kept (records.Account address password) = kept_same kept.messages
kept_after kept (records.Domain name) = kept_same kept.messages
kept_after kept (records.Folder account name) = kept_same kept.messages
kept_after kept (records.Message folder flags mark date octets) = kept_more kept.messages _
kept_after kept (records.Flags message flags) = kept_changed (with_flags flags) (λ m. refl) (λ m lives. lives) kept.messages message
kept_after kept (records.Expunge message) = kept_changed gone (λ m. refl) (λ m lives. absurd cc) kept.messages message
kept_after kept (records.Queue path addresses mark octets) = kept_same kept.messages
kept_after kept (records.Settle entry index) = kept_same kept.messages
kept_after kept records.Version = kept_same kept.messages

kept_after_all : (kept : Kept) (more : List Record) → AreKept kept.messages (after_all kept more).messages
kept_after_all kept [] = kept_same kept.messages
kept_after_all kept (one ∷ others) = kept_on kept.messages (after_record kept one).messages (after_all (after_record kept one) others).messages (kept_after kept one) (kept_after_all (after_record kept one) others)

-- ---- the next UID doesn't fall

count_on : (folder : ℕ) (ms ns : List Message) → AreKept ms ns → count_in folder ms ≤ count_in folder ns
count_on folder [] ns k = omega arith
count_on folder (m ∷ ms) [] k = absurd k
count_on folder (m ∷ ms) (n ∷ ns) k =
    let rest = count_on folder ms ns k.2 in
    subst (λ (f : ℕ). cond (m.folder == folder) 1 0 + count_in folder ms ≤ cond (f == folder) 1 0 + count_in folder ns) (sym k.0) (omega (arith, rest))

pub next_uid : (kept : Kept) (more : List Record) (folder : ℕ) → uid_next kept folder ≤ uid_next (after_all kept more) folder
next_uid kept more folder =
    let rest = count_on folder kept.messages (after_all kept more).messages (kept_after_all kept more) in
    omega (arith, rest, next_is kept folder, next_is (after_all kept more) folder)

-- ---- each message keeps its UID

abbrev HasUid : List Listed → Listed → Type 0
HasUid all one = Any (λ was. (was.id ≡ one.id) × (was.uid ≡ one.uid)) all

-- it is listed with this UID, or its number and its UID are these or greater
abbrev IsOldOrNew : List Listed → ℕ → ℕ → Listed → Type 0
IsOldOrNew all id uid one = HasUid all one ⊎ ((id ≤ one.id) × (uid ≤ one.uid))

has_later : (first : Listed) (all : List Listed) (one : Listed) → HasUid all one → HasUid (first ∷ all) one
has_later first all one h = (suc h.0, h.1, omega (arith, h.2), h.3, h.4)

old_later : (first : Listed) (all : List Listed) (id uid : ℕ) (one : Listed) → IsOldOrNew all id uid one → IsOldOrNew (first ∷ all) id uid one
old_later first all id uid one (inl h) = inl (has_later first all one h)
old_later first all id uid one (inr h) = inr h

old_or_new : (id uid low low_uid : ℕ) (all : List Listed) (one : Listed) → low ≤ id → low_uid ≤ uid → IsOldOrNew all id uid one → IsOldOrNew all low low_uid one
old_or_new id uid low low_uid all one le le_uid (inl h) = inl h
old_or_new id uid low low_uid all one le le_uid (inr h) = inr (omega (arith, le, h.0), omega (arith, le_uid, h.1))

new_from : (folder at uid id low : ℕ) (ms : List Message) → id ≤ at → low ≤ uid → AllByRecursion (IsOldOrNew [] id low) (listed_from folder at uid ms)
new_from folder at uid id low [] few few_uids = tt
new_from folder at uid id low (m ∷ ms) few few_uids =
    all_put (IsOldOrNew [] id low) (m.folder == folder) m.live (record { id = at; uid = uid; flags = m.flags }) _ _ (λ is. inr (few, few_uids))
    (new_from folder (at + 1) (uid + 1) id low ms (omega (arith, few)) (omega (arith, few_uids))) (new_from folder (at + 1) uid id low ms (omega (arith, few)) few_uids)

-- one message more in front of what is listed and of what is listed later
stay_put : (here was lives : Bool) (old new : Listed) (olds other_olds news other_news : List Listed) (id uid n : ℕ) → (lives ≡ true → was ≡ true) → old.id ≡ new.id → old.uid ≡ new.uid
    → AllByRecursion (IsOldOrNew olds id (uid + 1 + n)) news → AllByRecursion (IsOldOrNew other_olds id (uid + n)) other_news
    → AllByRecursion (IsOldOrNew (put here was old olds other_olds) id (uid + (cond here 1 0 + n))) (put here lives new news other_news)
stay_put false was lives old new olds other_olds news other_news id uid n dies same same_uid rest others =
    all_as (IsOldOrNew other_olds id (uid + n)) (IsOldOrNew other_olds id (uid + (0 + n))) (λ one. old_or_new id (uid + n) id (uid + (0 + n)) other_olds one (omega arith) (omega arith)) other_news others
stay_put true false false old new olds other_olds news other_news id uid n dies same same_uid rest others =
    all_as (IsOldOrNew olds id (uid + 1 + n)) (IsOldOrNew olds id (uid + (1 + n))) (λ one. old_or_new id (uid + 1 + n) id (uid + (1 + n)) olds one (omega arith) (omega arith)) news rest
stay_put true false true old new olds other_olds news other_news id uid n dies same same_uid rest others =
    let lived : false ≡ true = dies refl in
    absurd cc
stay_put true true lives old new olds other_olds news other_news id uid n dies same same_uid rest others =
    all_put (IsOldOrNew (old ∷ olds) id (uid + (1 + n))) true lives new news news (λ is. inl (0, old, omega arith, refl, (same, same_uid))) each each
  where
    each : AllByRecursion (IsOldOrNew (old ∷ olds) id (uid + (1 + n))) news
    each = all_as (IsOldOrNew olds id (uid + 1 + n)) (IsOldOrNew (old ∷ olds) id (uid + (1 + n)))
        (λ one h. old_later old olds id (uid + (1 + n)) one (old_or_new id (uid + 1 + n) id (uid + (1 + n)) olds one (omega arith) (omega arith) h)) news rest

stay_from : (folder at uid id : ℕ) (ms ns : List Message) → id ≤ at + length ms → AreKept ms ns
    → AllByRecursion (IsOldOrNew (listed_from folder at uid ms) id (uid + count_in folder ms)) (listed_from folder at uid ns)
stay_from folder at uid id [] ns few k = new_from folder at uid id (uid + 0) ns (omega (arith, few)) (omega arith)
stay_from folder at uid id (m ∷ ms) [] few k = absurd k
stay_from folder at uid id (m ∷ ms) (n ∷ ns) few k =
    subst (λ (f : ℕ). AllByRecursion (IsOldOrNew (listed_from folder at uid (m ∷ ms)) id (uid + (cond (m.folder == folder) 1 0 + count_in folder ms)))
    (put (f == folder) n.live (record { id = at; uid = uid; flags = n.flags }) (listed_from folder (at + 1) (uid + 1) ns) (listed_from folder (at + 1) uid ns))) (sym k.0)
    (stay_put (m.folder == folder) m.live n.live (record { id = at; uid = uid; flags = m.flags }) (record { id = at; uid = uid; flags = n.flags })
    (listed_from folder (at + 1) (uid + 1) ms) (listed_from folder (at + 1) uid ms) (listed_from folder (at + 1) (uid + 1) ns) (listed_from folder (at + 1) uid ns)
    id uid (count_in folder ms) k.1 refl refl
    (stay_from folder (at + 1) (uid + 1) id ms ns (omega (arith, few)) k.2) (stay_from folder (at + 1) uid id ms ns (omega (arith, few)) k.2))

pub uids_stay : (kept : Kept) (more : List Record) (folder : ℕ) → AllByRecursion (IsListedOrNew kept folder) (listed (after_all kept more) folder)
uids_stay kept more folder =
    let next = next_is kept folder in
    all_as (IsOldOrNew (listed kept folder) (length kept.messages) (1 + count_in folder kept.messages)) (IsListedOrNew kept folder)
    (λ one. old_or_new (length kept.messages) (1 + count_in folder kept.messages) (length kept.messages) (uid_next kept folder) (listed kept folder) one (omega arith) (omega (arith, next)))
    (listed (after_all kept more) folder)
    (stay_from folder 0 1 (length kept.messages) kept.messages (after_all kept more).messages (omega arith) (kept_after_all kept more))
