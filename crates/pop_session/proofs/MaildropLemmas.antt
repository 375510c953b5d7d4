-- The messages of a maildrop, with marks put on and taken away.
use Rattle.std.proofs.Common.{◌≡◌, ℕ, zero, suc, ◌+◌, ◌<◌, List, [], ◌∷◌, ◌++◌, length, length-append, take, drop, get_or, set, sum_by, Bool, true, false, arith, refl, ap, sym, ◌∙◌, Some, None, Option}
use Rattle.std.specs.Prelude.{◌==◌, codes, map, slice_get, slice_index_or, if◌then◌else◌}
use Rattle.std.specs.List.{AllByRecursion, IsDistinct, list_all}
use Rattle.std.specs.Option.{option_map_or}
use Rattle.std.proofs.lemmas.List.Sums.{sum_by-append, sum_by-cons}
use Rattle.mail_store.specs.Changing.{is_live, expunged, expunge_refusal}
use Rattle.kept_mail.specs.Kept.{Kept, change_at, listed, name_of}
use Rattle.kept_mail.specs.Records.{IsLive}
use Rattle.mail_store.specs.StoreState.{StoreState, with_records}
use Rattle.kept_mail.specs.declared.kept.Listed.{Listed}
use Rattle.mail_store.proofs.ListedLemmas.{listed_live, listed_distinct}
use Rattle.kept_mail.specs.declared.kept.Message.{Message}
use Rattle.session_core.proofs.DeskLemmas.{expunged_domains}
use Rattle.pop_session.specs.declared.states.MaildropMessage.{MaildropMessage}
use Rattle.pop_session.specs.Machine.{marked, unmarked, deleted_ids, left_of}
use Rattle.pop_session.specs.States.{Knows}

-- the number in the store of a message
abbrev pub id_of : MaildropMessage → ℕ
id_of one = one.listed.id

next-suc : (n : ℕ) → n + 1 ≡ suc n
next-suc n = omega arith

-- a mark changes no number
marked-ids : (deleted : Bool) (maildrop : List MaildropMessage) (place : ℕ) → map id_of (change_at (marked deleted) maildrop place) ≡ map id_of maildrop
marked-ids deleted [] place = refl
marked-ids deleted (one ∷ maildrop) zero = refl
marked-ids deleted (one ∷ maildrop) (suc place) = ap (λ ids. id_of one ∷ ids) (marked-ids deleted maildrop place)

all_marked-ids : (deleted : Bool) (maildrop : List MaildropMessage) → map id_of (map (marked deleted) maildrop) ≡ map id_of maildrop
all_marked-ids deleted [] = refl
all_marked-ids deleted (one ∷ maildrop) = ap (λ ids. id_of one ∷ ids) (all_marked-ids deleted maildrop)

-- what holds of numbers alone holds of messages with a mark
marked-all : (P : ℕ → Type 0) (deleted : Bool) (maildrop : List MaildropMessage) (place : ℕ) → AllByRecursion (λ one. P one.listed.id) maildrop
    → AllByRecursion (λ one. P one.listed.id) (change_at (marked deleted) maildrop place)
marked-all P deleted [] place all = tt
marked-all P deleted (one ∷ maildrop) zero all = all
marked-all P deleted (one ∷ maildrop) (suc place) all = (all.0, marked-all P deleted maildrop place all.1)

all_marked-all : (P : ℕ → Type 0) (deleted : Bool) (maildrop : List MaildropMessage) → AllByRecursion (λ one. P one.listed.id) maildrop
    → AllByRecursion (λ one. P one.listed.id) (map (marked deleted) maildrop)
all_marked-all P deleted [] all = tt
all_marked-all P deleted (one ∷ maildrop) all = (all.0, all_marked-all P deleted maildrop all.1)

-- the store has the messages also where one is marked
pub knows-marked : (store : StoreState) (maildrop : List MaildropMessage) (place : ℕ) → Knows store maildrop → Knows store (change_at (marked true) maildrop place)
knows-marked store maildrop place knows = record {
  live = marked-all (λ id. IsLive (slice_get store.kept.messages id)) true maildrop place knows.live;
  distinct = rw (marked-ids true maildrop place) knows.distinct;
}

-- the store has the messages also where all marks are taken away
pub knows-unmarked : (store : StoreState) (maildrop : List MaildropMessage) → Knows store maildrop → Knows store (map (marked false) maildrop)
knows-unmarked store maildrop knows = record {
  live = all_marked-all (λ id. IsLive (slice_get store.kept.messages id)) false maildrop knows.live;
  distinct = rw (all_marked-ids false maildrop) knows.distinct;
}

-- ---- the messages at login

unmarked-all : (P : ℕ → Type 0) (listing : List Listed) → AllByRecursion (λ one. P one.id) listing → AllByRecursion (λ one. P one.listed.id) (map unmarked listing)
unmarked-all P [] all = tt
unmarked-all P (one ∷ listing) all = (all.0, unmarked-all P listing all.1)

unmarked-ids : (listing : List Listed) → map id_of (map unmarked listing) ≡ map (λ (one : Listed). one.id) listing
unmarked-ids [] = refl
unmarked-ids (one ∷ listing) = ap (λ ids. one.id ∷ ids) (unmarked-ids listing)

-- the store has the messages that it lists
pub knows-listed : (store : StoreState) (folder : ℕ) (maildrop : List MaildropMessage) → maildrop ≡ map unmarked (listed store.kept folder) → Knows store maildrop
knows-listed store folder maildrop is = rw is (record {
  live = unmarked-all (λ id. IsLive (slice_get store.kept.messages id)) (listed store.kept folder) (listed_live store.kept folder);
  distinct = rw (unmarked-ids (listed store.kept folder)) (listed_distinct store.kept folder);
})

-- ---- the marks are taken away, one after another

unmark-one : (old : List MaildropMessage) (place : ℕ) (d : MaildropMessage) → place < length old
    → set (map (marked false) (take place old) ++ drop place old) place (marked false (get_or (map (marked false) (take place old) ++ drop place old) place d))
    ≡ map (marked false) (take (suc place) old) ++ drop (suc place) old
unmark-one [] place d inside = absurd (omega arith)
unmark-one (one ∷ old) zero d inside = refl
unmark-one (one ∷ old) (suc place) d inside = ap (λ others. marked false one ∷ others) (unmark-one old place d (omega arith))

-- one more mark
pub unmark-turn : (old now : List MaildropMessage) (place : ℕ) (d : MaildropMessage) → place < length old → now ≡ map (marked false) (take place old) ++ drop place old
    → set now place (marked false (get_or now place d)) ≡ map (marked false) (take (place + 1) old) ++ drop (place + 1) old
unmark-turn old now place d inside is = rw (is, next-suc place) (unmark-one old place d inside)

-- ---- the messages that are marked

all-if : (P : ℕ → Type 0) (deleted : Bool) (id : ℕ) (ids : List ℕ) → P id → AllByRecursion P ids → AllByRecursion P (if deleted then id ∷ ids else ids)
all-if P true id ids this rest = (this, rest)
all-if P false id ids this rest = rest

-- what holds of all numbers holds of those of the marked messages
deleted-all : (P : ℕ → Type 0) (maildrop : List MaildropMessage) → AllByRecursion P (map id_of maildrop) → AllByRecursion P (deleted_ids maildrop)
deleted-all P [] all = tt
deleted-all P (one ∷ maildrop) all = all-if P one.deleted one.listed.id (deleted_ids maildrop) all.0 (deleted-all P maildrop all.1)

distinct-if : (deleted : Bool) (id : ℕ) (ids : List ℕ) → AllByRecursion (λ other. (id == other) ≡ false) ids → IsDistinct (λ a b. a == b) ids
    → IsDistinct (λ a b. a == b) (if deleted then id ∷ ids else ids)
unfolding IsDistinct
distinct-if true id ids differ rest = (differ, rest)
distinct-if false id ids differ rest = rest

ids-distinct : (maildrop : List MaildropMessage) → IsDistinct (λ a b. a == b) (map id_of maildrop) → IsDistinct (λ a b. a == b) (deleted_ids maildrop)
unfolding IsDistinct
ids-distinct [] distinct = tt
ids-distinct (one ∷ maildrop) distinct =
    distinct-if one.deleted one.listed.id (deleted_ids maildrop) (deleted-all (λ other. (one.listed.id == other) ≡ false) maildrop distinct.0) (ids-distinct maildrop distinct.1)

-- no marked message is named twice
pub deleted-distinct : (store : StoreState) (maildrop : List MaildropMessage) → Knows store maildrop → IsDistinct (λ a b. a == b) (deleted_ids maildrop)
deleted-distinct store maildrop knows = ids-distinct maildrop knows.distinct

live-is : (found : Option Message) → IsLive found → option_map_or (λ (message : Message). message.live) found false ≡ true
live-is None live = absurd live
live-is (Some message) live = live

live-if : (kept : Kept) (deleted : Bool) (id : ℕ) (ids : List ℕ) → IsLive (slice_get kept.messages id) → list_all (is_live kept) ids ≡ true
    → list_all (is_live kept) (if deleted then id ∷ ids else ids) ≡ true
live-if kept true id ids live rest = rw (live-is (slice_get kept.messages id) live) rest
live-if kept false id ids live rest = rest

ids-live : (kept : Kept) (maildrop : List MaildropMessage) → AllByRecursion (λ one. IsLive (slice_get kept.messages one.listed.id)) maildrop
    → list_all (is_live kept) (deleted_ids maildrop) ≡ true
ids-live kept [] live = refl
ids-live kept (one ∷ maildrop) live = live-if kept one.deleted one.listed.id (deleted_ids maildrop) live.0 (ids-live kept maildrop live.1)

-- so they can be taken out
pub deleted-unrefused : (store : StoreState) (maildrop : List MaildropMessage) → Knows store maildrop → expunge_refusal store.kept (deleted_ids maildrop) ≡ None
deleted-unrefused store maildrop knows = rw (ids-live store.kept maildrop knows.live) refl

-- ---- the messages that aren't marked

put-if : (deleted : Bool) (one : Listed) (front end : List Listed) → (if deleted then front else one ∷ front) ++ end ≡ (if deleted then front ++ end else one ∷ front ++ end)
put-if true one front end = refl
put-if false one front end = refl

left-kept_suc : (maildrop : List MaildropMessage) (place : ℕ) (d : MaildropMessage) → place < length maildrop → (get_or maildrop place d).deleted ≡ false
    → left_of (take (suc place) maildrop) ≡ left_of (take place maildrop) ++ (get_or maildrop place d).listed ∷ []
left-kept_suc [] place d inside kept = absurd (omega arith)
left-kept_suc (one ∷ maildrop) zero d inside kept = rw kept refl
left-kept_suc (one ∷ maildrop) (suc place) d inside kept =
    ap (λ others. if one.deleted then others else one.listed ∷ others) (left-kept_suc maildrop place d (omega arith) kept)
    ∙ sym (put-if one.deleted one.listed (left_of (take place maildrop)) ((get_or maildrop place d).listed ∷ []))

left-marked_suc : (maildrop : List MaildropMessage) (place : ℕ) (d : MaildropMessage) → place < length maildrop → (get_or maildrop place d).deleted ≡ true
    → left_of (take (suc place) maildrop) ≡ left_of (take place maildrop)
left-marked_suc [] place d inside is = absurd (omega arith)
left-marked_suc (one ∷ maildrop) zero d inside is = rw is refl
left-marked_suc (one ∷ maildrop) (suc place) d inside is =
    ap (λ others. if one.deleted then others else one.listed ∷ others) (left-marked_suc maildrop place d (omega arith) is)

-- one more message that isn't marked
pub left-kept : (maildrop : List MaildropMessage) (place : ℕ) (d : MaildropMessage) → place < length maildrop → (get_or maildrop place d).deleted ≡ false
    → left_of (take (place + 1) maildrop) ≡ left_of (take place maildrop) ++ (get_or maildrop place d).listed ∷ []
left-kept maildrop place d inside kept = rw (next-suc place) (left-kept_suc maildrop place d inside kept)

-- one more message that is marked
pub left-marked : (maildrop : List MaildropMessage) (place : ℕ) (d : MaildropMessage) → place < length maildrop → (get_or maildrop place d).deleted ≡ true
    → left_of (take (place + 1) maildrop) ≡ left_of (take place maildrop)
left-marked maildrop place d inside is = rw (next-suc place) (left-marked_suc maildrop place d inside is)

-- the count and the sum with one more message that isn't marked
pub count-kept : (maildrop : List MaildropMessage) (place : ℕ) (d : MaildropMessage) (n : ℕ) → place < length maildrop → (get_or maildrop place d).deleted ≡ false
    → n ≡ length (left_of (take place maildrop)) → n + 1 ≡ length (left_of (take (place + 1) maildrop))
count-kept maildrop place d n inside kept is =
    rw (is, left-kept maildrop place d inside kept) (sym (length-append (left_of (take place maildrop)) ((get_or maildrop place d).listed ∷ [])))

pub sum-kept : (row : Listed → ℕ) (maildrop : List MaildropMessage) (place : ℕ) (d : MaildropMessage) (n value : ℕ) → place < length maildrop → (get_or maildrop place d).deleted ≡ false
    → value ≡ row (get_or maildrop place d).listed → n ≡ sum_by row (left_of (take place maildrop)) → n + value ≡ sum_by row (left_of (take (place + 1) maildrop))
sum-kept row maildrop place d n value inside kept value_is is =
    let all = sum_by-append row (left_of (take place maildrop)) ((get_or maildrop place d).listed ∷ []) in
    let one = sum_by-cons row (get_or maildrop place d).listed [] in
    rw (is, value_is, left-kept maildrop place d inside kept, all, one) (omega arith)

-- ---- the name of the store

-- messages that go leave the name as it is
pub expunged_name : (old new : StoreState) (ids : List ℕ) → new ≡ with_records old (expunged ids) → name_of new.kept ≡ name_of old.kept
expunged_name old new ids is =
    ap (λ (s : StoreState). name_of s.kept) is ∙ ap (λ (l : List (List ℕ)). slice_index_or l 0 (codes "localhost")) (expunged_domains old.kept ids)
