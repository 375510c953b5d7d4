-- What is done with the messages of a set, one after the other.
use Rattle.std.proofs.Common.{◌≡◌, ℕ, zero, suc, ◌+◌, ◌<◌, ◌≤◌, Bool, false, List, [], ◌∷◌, ◌++◌, length, get_or, set, take, drop, Option, None, Some, refl, sym, ap, subst, ◌∙◌, append-nil, inl, inr, arith}
use Rattle.std.specs.Prelude.{slice_get}
use Rattle.std.specs.List.{All, flat_map}
use Rattle.std.specs.List.Sorted.{IsStrictlyIncreasing}
use Rattle.std.specs.Option.{option_map_or}
use Rattle.std.proofs.lemmas.List.{length-set, set-get_or, take_more, take-append-drop}
use Rattle.std.proofs.lemmas.List.Concat.{flat_map-append, flat_map-cons}
use Rattle.std.proofs.lemmas.List.Elements.{All-set, All-weaker}
use Rattle.std.proofs.lemmas.Map.Keys.{below_from_sorted, sorted_from_strictly_increasing}
use Rattle.std.proofs.lemmas.Option.{get_or_from_slice_get, none-some, slice_get_read, slice_get_within}
use Rattle.mail_wire.specs.declared.outside.Fault.{Fault}
use Rattle.journal_records.specs.declared.records.Record.TheVariants as records
use Rattle.kept_mail.specs.declared.kept.Listed.{Listed}
use Rattle.kept_mail.specs.declared.kept.Message.{Message}
use Rattle.kept_mail.specs.Kept.{Kept, after_record, change_at, listed, with_flags}
use Rattle.kept_mail.specs.Records.{IsLive}
use Rattle.kept_mail.proofs.Places.{set-change_at}
use Rattle.kept_mail.proofs.SameMessages.{length-change_at}
use Rattle.mail_store.specs.StoreState.{StoreState}
use Rattle.mail_store.proofs.ListedLemmas.{listed_flags_at, relisted}
use Rattle.session_core.specs.Acts.{Act}
use Rattle.session_core.specs.Around.{Around}
use Rattle.imap_session.specs.Machine.{Numbered, flags_reply, numbered_at}
use Rattle.imap_session.specs.Replies.{ReplyPart}
use Rattle.imap_session.specs.private.Messages.{HasNewFlags, KeepsListing, ShowsAlike}
use Rattle.imap_session.specs.private.Pending.{Carries}
use Rattle.imap_session.proofs.PendingLemmas.{Carries-before, Carries-then}

-- ---- other flags

-- what isn't the flags stays
part_kept : (part : Message → List ℕ) (flags : ℕ) → ((m : Message) → part (with_flags flags m) ≡ part m) → (ms : List Message) (at id : ℕ)
    → option_map_or part (slice_get (change_at (with_flags flags) ms at) id) [] ≡ option_map_or part (slice_get ms id) []
part_kept part flags keeps [] at id = refl
part_kept part flags keeps (m ∷ ms) zero zero = keeps m
part_kept part flags keeps (m ∷ ms) zero (suc id) = refl
part_kept part flags keeps (m ∷ ms) (suc at) zero = refl
part_kept part flags keeps (m ∷ ms) (suc at) (suc id) = part_kept part flags keeps ms at id

live_kept : (flags : ℕ) (ms : List Message) (at id : ℕ) → IsLive (slice_get ms id) → IsLive (slice_get (change_at (with_flags flags) ms at) id)
live_kept flags [] at id live = live
live_kept flags (m ∷ ms) zero zero live = live
live_kept flags (m ∷ ms) zero (suc id) live = live
live_kept flags (m ∷ ms) (suc at) zero live = live
live_kept flags (m ∷ ms) (suc at) (suc id) live = live_kept flags ms at id live

some_within : {X : Type 0} (xs : List X) (at : ℕ) (found : Option X) → slice_get xs at ≡ found → (found ≡ None → ⊥) → at < length xs
some_within xs at None is some = absurd (some refl)
some_within xs at (Some x) is some = slice_get_within xs at x is

never_live : (found : Option Message) → IsLive found → found ≡ None → ⊥
never_live None live is = live
never_live (Some m) live is = absurd (none-some m (sym is))

-- what is live is there
pub live_within : (ms : List Message) (id : ℕ) → IsLive (slice_get ms id) → id < length ms
live_within ms id live = some_within ms id (slice_get ms id) refl (never_live (slice_get ms id) live)

-- ---- stores with the same messages

pub ShowsAlike-nil : (a : StoreState) → ShowsAlike a a
ShowsAlike-nil a = record { octets = λ id. refl; dates = λ id. refl }

pub ShowsAlike-then : (a b c : StoreState) → ShowsAlike a b → ShowsAlike b c → ShowsAlike a c
ShowsAlike-then a b c one two = record { octets = λ id. two.octets id ∙ one.octets id; dates = λ id. two.dates id ∙ one.dates id }

part_at : (part : Message → List ℕ) (id : ℕ) (kept : Kept) → List ℕ
part_at part id kept = option_map_or part (slice_get kept.messages id) []

octets_of : Message → List ℕ
octets_of m = m.octets

date_of : Message → List ℕ
date_of m = m.date

pub ShowsAlike-same : (a b : StoreState) → b.kept ≡ a.kept → ShowsAlike a b
unfolding part_at octets_of date_of
ShowsAlike-same a b is = record { octets = λ id. ap (part_at octets_of id) is; dates = λ id. ap (part_at date_of id) is }

pub ShowsAlike-changed : (a b : StoreState) (id flags : ℕ) → b.kept ≡ after_record a.kept (records.Flags id flags) → ShowsAlike a b
unfolding part_at octets_of date_of
ShowsAlike-changed a b id flags is = record {
  octets = λ at. ap (part_at octets_of at) is ∙ part_kept octets_of flags (λ m. refl) a.kept.messages id at;
  dates = λ at. ap (part_at date_of at) is ∙ part_kept date_of flags (λ m. refl) a.kept.messages id at;
}

pub ShowsAlike-flags : (a b : StoreState) (was is : Listed) → HasNewFlags a.kept b.kept was is → ShowsAlike a b
ShowsAlike-flags a b was is has = elim has.kept_is [
  | inl same ↦ ShowsAlike-same a b same.0
  | inr changed ↦ ShowsAlike-changed a b was.id is.flags changed
]

-- there are as many messages
pub still_within : (a b : Kept) (id other flags : ℕ) → b ≡ after_record a (records.Flags other flags) → id < length a.messages → id < length b.messages
still_within a b id other flags is low =
    let count : length b.messages ≡ length a.messages = ap (λ (kept : Kept). length kept.messages) is ∙ length-change_at (with_flags flags) a.messages other in
    omega (arith, count, low)

-- ---- listings

-- each listed message is there and isn't expunged
abbrev pub AreLive : StoreState → List Listed → Type 0
AreLive store messages = All (λ one. IsLive (slice_get store.kept.messages one.id)) messages

-- nothing changed of the messages at the places from one of these on
abbrev pub AreUntouched : (were are : List Listed) (places : List ℕ) (next : ℕ) → Type 0
AreUntouched were are places next = (k : ℕ) → next ≤ k → k < length places → slice_get are (get_or places k 0) ≡ slice_get were (get_or places k 0)

slice_get-set_other : {X : Type 0} (xs : List X) (at other : ℕ) (x : X) → at < other → slice_get (set xs at x) other ≡ slice_get xs other
slice_get-set_other [] at other x low = refl
slice_get-set_other (y ∷ xs) at zero x low = absurd (omega (arith, low))
slice_get-set_other (y ∷ xs) zero (suc other) x low = refl
slice_get-set_other (y ∷ xs) (suc at) (suc other) x low = slice_get-set_other xs at other x (omega (arith, low))

pub AreUntouched-turn : (were are : List Listed) (places : List ℕ) (next place : ℕ) (is : Listed) → IsStrictlyIncreasing places → next < length places → place ≡ get_or places next 0
    → AreUntouched were are places next → AreUntouched were (set are place is) places (next + 1)
AreUntouched-turn were are places next place is rising low here untouched k from within =
    let later : get_or places next 0 < get_or places k 0 = below_from_sorted places next k 0 (sorted_from_strictly_increasing places rising) (omega (arith, from)) within in
    slice_get-set_other are place (get_or places k 0) is (omega (arith, later, here)) ∙ untouched k (omega (arith, from)) within

-- the message at the next of the places, as it was at first and is yet
pub record IsNext (were are : List Listed) (places : List ℕ) (next place : ℕ) (was : Listed) : Type 0 where
  pub low : next < length places
  pub here : place ≡ get_or places next 0
  pub is : slice_get are place ≡ Some was
  pub was_first : slice_get were place ≡ Some was

pub next_is : (were are : List Listed) (places : List ℕ) (next : ℕ) (was : Listed) → next < length places → All (λ place. place < length were) places → length are ≡ length were
    → AreUntouched were are places next → was ≡ get_or are (get_or places next 0) was → IsNext were are places next (get_or places next 0) was
next_is were are places next was low within count untouched at =
    let inside : get_or places next 0 < length are = omega (arith, within next 0 low, count) in
    let is : slice_get are (get_or places next 0) ≡ Some was = slice_get_read are (length are) (get_or places next 0) was refl inside at in
    record { low = low; here = refl; is = is; was_first = sym (untouched next (omega arith) low) ∙ is }

pub KeepsListing-nil : (store : StoreState) (messages : List Listed) → KeepsListing store store messages messages
KeepsListing-nil store messages = record { alike = ShowsAlike-nil store; count = refl; accounts = refl; folders = refl; listing = λ folder is. is }

set_same : {X : Type 0} (xs : List X) (at : ℕ) (x y : X) → slice_get xs at ≡ Some x → y ≡ x → set xs at y ≡ xs
set_same xs at x y at_is is =
    ap (set xs at) (is ∙ sym (get_or_from_slice_get xs at x x at_is)) ∙ set-get_or xs at x

-- the same message with these flags is the listed one where the flags are the same
is_same : (was is : Listed) → is ≡ record was { flags = is.flags } → is.flags ≡ was.flags → is ≡ was
is_same was is new flags = new ∙ ap (λ (f : ℕ). (let one : Listed = record was { flags = f } in one)) flags

listing_turn : (old new : Kept) (messages : List Listed) (place folder : ℕ) (was is : Listed) → slice_get messages place ≡ Some was → HasNewFlags old new was is → messages ≡ listed old folder
    → set messages place is ≡ listed new folder
listing_turn old new messages place folder was is at has from = elim has.kept_is [
  | inl same ↦ set_same messages place was is at (is_same was is has.same same.1) ∙ (from ∙ ap (λ kept. listed kept folder) (sym same.0))
  | inr changed ↦
      let there : slice_get (listed old folder) place ≡ Some was = subst (λ (l : List Listed). slice_get l place ≡ Some was) from at in
      ap (set messages place) has.same ∙ (set-change_at (relisted is.flags) messages place was (slice_get_within messages place was at) (sym (get_or_from_slice_get messages place was was at))
      ∙ (ap (λ (l : List Listed). change_at (relisted is.flags) l place) from
      ∙ (sym (listed_flags_at old folder is.flags place was there) ∙ ap (λ kept. listed kept folder) (sym changed))))
]

counts_kept : (old new : Kept) (was is : Listed) → HasNewFlags old new was is → (length new.accounts ≡ length old.accounts) × (length new.folders ≡ length old.folders)
counts_kept old new was is has = elim has.kept_is [
  | inl same ↦ (ap (λ (kept : Kept). length kept.accounts) same.0, ap (λ (kept : Kept). length kept.folders) same.0)
  | inr changed ↦ (ap (λ (kept : Kept). length kept.accounts) changed, ap (λ (kept : Kept). length kept.folders) changed)
]

pub KeepsListing-turn : (old mid new : StoreState) (were are : List Listed) (place : ℕ) (was is : Listed) → slice_get are place ≡ Some was → HasNewFlags mid.kept new.kept was is
    → KeepsListing old mid were are → KeepsListing old new were (set are place is)
KeepsListing-turn old mid new were are place was is at has keeps =
    let counts = counts_kept mid.kept new.kept was is has in
    record {
      alike = ShowsAlike-then old mid new keeps.alike (ShowsAlike-flags mid new was is has);
      count = length-set are place is ∙ keeps.count;
      accounts = counts.0 ∙ keeps.accounts;
      folders = counts.1 ∙ keeps.folders;
      listing = λ folder from. listing_turn mid.kept new.kept are place folder was is at has (keeps.listing folder from);
    }

live_on : (old new : Kept) (was is : Listed) (id : ℕ) → HasNewFlags old new was is → IsLive (slice_get old.messages id) → IsLive (slice_get new.messages id)
live_on old new was is id has live = elim has.kept_is [
  | inl same ↦ subst (λ (kept : Kept). IsLive (slice_get kept.messages id)) (sym same.0) live
  | inr changed ↦ subst (λ (kept : Kept). IsLive (slice_get kept.messages id)) (sym changed) (live_kept is.flags old.messages was.id id live)
]

pub AreLive-turn : (mid new : StoreState) (are : List Listed) (place : ℕ) (was is : Listed) → IsLive (slice_get mid.kept.messages was.id) → HasNewFlags mid.kept new.kept was is
    → AreLive mid are → AreLive new (set are place is)
AreLive-turn mid new are place was is live has all =
    let own : is.id ≡ was.id = ap (λ (one : Listed). one.id) has.same in
    All-set (λ (one : Listed). IsLive (slice_get new.kept.messages one.id)) are place is
    (subst (λ (id : ℕ). IsLive (slice_get new.kept.messages id)) (sym own) (live_on mid.kept new.kept was is was.id has live))
    (All-weaker (λ (one : Listed). IsLive (slice_get mid.kept.messages one.id)) (λ (one : Listed). IsLive (slice_get new.kept.messages one.id))
    (λ one lives. live_on mid.kept new.kept was is one.id has lives) are all)

-- the message at a place is live
pub live_at : (store : StoreState) (are : List Listed) (place : ℕ) (was : Listed) → slice_get are place ≡ Some was → AreLive store are → IsLive (slice_get store.kept.messages was.id)
live_at store are place was at all =
    subst (λ (one : Listed). IsLive (slice_get store.kept.messages one.id)) (get_or_from_slice_get are place was was at) (all place was (slice_get_within are place was at))

-- ---- the acts for each

acts_at : (act : Numbered → List (Act ReplyPart)) (were : List Listed) (place : ℕ) (was : Listed) → slice_get were place ≡ Some was
    → flat_map act (flat_map (numbered_at were) (place ∷ [])) ≡ act (record { number = place + 1; listed = was })
acts_at act were place was at =
    rw (flat_map-cons (numbered_at were) place [], append-nil, at) (flat_map-cons act _ [] ∙ append-nil (act (record { number = place + 1; listed = was })))

both_append : (act : Numbered → List (Act ReplyPart)) (were : List Listed) (xs ys : List ℕ)
    → flat_map act (flat_map (numbered_at were) (xs ++ ys)) ≡ flat_map act (flat_map (numbered_at were) xs) ++ flat_map act (flat_map (numbered_at were) ys)
both_append act were xs ys = ap (flat_map act) (flat_map-append (numbered_at were) xs ys) ∙ flat_map-append act (flat_map (numbered_at were) xs) (flat_map (numbered_at were) ys)

acts_more : (act : Numbered → List (Act ReplyPart)) (were : List Listed) (places : List ℕ) (next place : ℕ) (was : Listed) → next < length places → place ≡ get_or places next 0
    → slice_get were place ≡ Some was
    → flat_map act (flat_map (numbered_at were) (take (next + 1) places)) ≡ flat_map act (flat_map (numbered_at were) (take next places)) ++ act (record { number = place + 1; listed = was })
acts_more act were places next place was low here at =
    ap (λ (l : List ℕ). flat_map act (flat_map (numbered_at were) l)) (take_more places next 0 low ∙ ap (λ (p : ℕ). take next places ++ p ∷ []) (sym here))
    ∙ (both_append act were (take next places) (place ∷ []) ∙ ap (λ (l : List (Act ReplyPart)). flat_map act (flat_map (numbered_at were) (take next places)) ++ l) (acts_at act were place was at))

-- the message at one more place
pub Carries-each : (spelled : ReplyPart → List ℕ) (act : Numbered → List (Act ReplyPart)) (were : List Listed) (places : List ℕ) (next place : ℕ) (was : Listed) (a b c : Around) (met : Option Fault)
    (owed mid owes : List ℕ) → next < length places → place ≡ get_or places next 0 → slice_get were place ≡ Some was
    → Carries spelled a b None owed mid (flat_map act (flat_map (numbered_at were) (take next places))) → Carries spelled b c met mid owes (act (record { number = place + 1; listed = was }))
    → Carries spelled a c met owed owes (flat_map act (flat_map (numbered_at were) (take (next + 1) places)))
Carries-each spelled act were places next place was a b c met owed mid owes low here at front one =
    subst (λ (acts : List (Act ReplyPart)). Carries spelled a c met owed owes acts) (sym (acts_more act were places next place was low here at))
    (Carries-then spelled a b c met owed mid owes (flat_map act (flat_map (numbered_at were) (take next places))) (act (record { number = place + 1; listed = was })) front one)

-- a fault at one of the places
pub Carries-at : (spelled : ReplyPart → List ℕ) (act : Numbered → List (Act ReplyPart)) (were : List Listed) (places : List ℕ) (next : ℕ) (a b : Around) (met : Fault) (owed mid owes : List ℕ)
    → Carries spelled a b (Some met) owed mid (flat_map act (flat_map (numbered_at were) (take next places))) → Carries spelled a b (Some met) owed owes (flat_map act (flat_map (numbered_at were) places))
Carries-at spelled act were places next a b met owed mid owes front =
    subst (λ (acts : List (Act ReplyPart)). Carries spelled a b (Some met) owed owes acts)
    (sym (both_append act were (take next places) (drop next places)) ∙ ap (λ (l : List ℕ). flat_map act (flat_map (numbered_at were) l)) (take-append-drop next places))
    (Carries-before spelled a b met owed mid owes (flat_map act (flat_map (numbered_at were) (take next places))) (flat_map act (flat_map (numbered_at were) (drop next places))) front)

-- ---- one message

pub new_flags : (old new : Kept) (was is : Listed) (flags : ℕ) → is ≡ record was { flags = flags } → new ≡ after_record old (records.Flags was.id flags) → HasNewFlags old new was is
new_flags old new was is flags changed kept =
    let own : flags ≡ is.flags = sym (ap (λ (one : Listed). one.flags) changed) in
    record {
      same = changed ∙ ap (λ (f : ℕ). (let one : Listed = record was { flags = f } in one)) own;
      kept_is = inr (kept ∙ ap (λ (f : ℕ). after_record old (records.Flags was.id f)) own);
    }

pub old_flags : (kept new : Kept) (was : Listed) → new ≡ kept → HasNewFlags kept new was was
old_flags kept new was same = record { same = refl; kept_is = inl (same, refl) }

-- the line that tells the flags, where the message is listed with them
pub flags_told : (by_uid : Bool) (number : ℕ) (was is : Listed) (flags : ℕ) → is ≡ record was { flags = flags }
    → flags_reply by_uid false (record { number = number; listed = is }) is.flags ≡ flags_reply by_uid false (record { number = number; listed = was }) flags
flags_told by_uid number was is flags changed = ap (λ (one : Listed). flags_reply by_uid false (record { number = number; listed = one }) one.flags) changed
