-- One act of a client: it gives octets, or settles an entry.
use Rattle.std.proofs.Common.{◌≡◌, ℕ, ◌+◌, ◌-◌, List, [], ◌∷◌, ◌++◌, length, get_or, map, zero, suc, Option, None, Some, Result, Ok, Err, refl, sym, ap, subst, ◌∙◌, arith, append-nil, inl, inr}
use Rattle.std.specs.Prelude.{OnOk, slice_get}
use Rattle.std.specs.Option.{option_map, option_map_or}
use Rattle.std.proofs.lemmas.List.Elements.{All-head, All-nil}
use Rattle.std.proofs.lemmas.Option.{get_or_from_slice_get, slice_get-map, slice_get_read}
use Rattle.address_grammar.specs.declared.Address.{Address}
use Rattle.journal_records.specs.declared.records.Record.{Record}
use Rattle.kept_mail.specs.Kept.{Kept, after_all}
use Rattle.mail_store.specs.Following.{records_of}
use Rattle.mail_store.specs.StoreState.{StoreState}
use Rattle.mail_store.specs.declared.queue.Queued.{Queued}
use Rattle.mail_wire.specs.declared.outside.Fault.{Fault}
use Rattle.mail_wire.specs.declared.outside.Fault.TheVariants as fault
use Rattle.relay_choice.specs.Said.{data_text}
use Rattle.relay_choice.specs.declared.mail_objects.Act.{Act as ClientAct}
use Rattle.relay_choice.specs.declared.mail_objects.Act.TheVariants as act
use Rattle.relay_choice.specs.declared.mail_objects.Outcome.{Outcome}
use Rattle.session_core.specs.Acts.{Act, changes, changes_in, gives}
use Rattle.session_core.specs.Around.{Around}
use Rattle.session_core.specs.Doing.{Replies}
use Rattle.session_core.specs.Keeps.{fault_of}
use Rattle.session_core.specs.Moments.{IsTold}
use Rattle.session_core.proofs.DoingLemmas.{Does-replies}
use Rattle.relay_session.specs.Carrying.{CarriesActs, said_octets}
use Rattle.relay_session.specs.MailObjects.{entry_octets, messages_of}
use Rattle.relay_session.specs.declared.ends.Tally.{Tally}
use Rattle.relay_session.specs.private.Acting.{ActsBroken, ActsBy, ActsDone, AreKnown, AreOpenFrom, DoesActs, IsActIn, IsOpenIn, KeepsQueue, MadeSettled, SettleFrom, Settles, sent_among, settled_count, tallied}
use Rattle.relay_session.proofs.ActsLemmas.{ActsDone-nil, open_at}
use Rattle.relay_session.proofs.CarryLemmas.{changes_in-map}
use Rattle.relay_session.proofs.QueueChanges.{open_after, stands_settled}
use Rattle.relay_session.proofs.QueueFacts.{AreKnown-on, messages_of-on}
use Rattle.relay_session.proofs.TallyLemmas.{same_tally, tallied-nothing}

-- what holds where no fault came
pub OnOk-of : {T : Type 0} (result : Result T Fault) (P : Type 0) → (fault_of result ≡ None → P) → OnOk result P
OnOk-of (Ok x) P holds = holds refl
OnOk-of (Err met) P holds = tt

-- ---- octets

given : (a b : Around) (met : Option Fault) (octets : List ℕ) → Replies a b met octets → DoesActs a b met (gives octets ∷ [])
given a b met octets replies = Does-replies (λ octets. octets) a b met (octets ∷ []) (rw (append-nil octets) replies)

-- an act that gives octets
gives_by : (path_of : List ℕ → Option (Option Address)) (a b : Around) (queue : List Queued) (one : ClientAct) (octets : List ℕ) (tally : Tally) (met : Option Fault)
    → CarriesActs path_of a.desk.store queue (messages_of a.desk.store.kept queue) [] (one ∷ []) (gives octets ∷ []) 0 → tally ≡ tallied tally (one ∷ []) 0
    → Replies a b met octets → ActsBy path_of a b queue (one ∷ []) tally tally met
gives_by path_of a b queue one octets tally None carries same replies =
    (gives octets ∷ [], 0, record { told = []; are_told = All-nil (IsTold a.clock); carries = carries; does = given a b None octets replies }, same)
gives_by path_of a b queue one octets tally (Some fault.Wire) carries same replies = record {
  between = a;
  front = [];
  one = one;
  others = [];
  all_are = refl;
  acts = [];
  count = 0;
  done = ActsDone-nil path_of a queue;
  octets = octets;
  says = carries;
  part = replies;
  tally = tallied-nothing tally;
}
gives_by path_of a b queue one octets tally (Some fault.Keeper) carries same replies = absurd (replies.fine refl)
gives_by path_of a b queue one octets tally (Some fault.Memory) carries same replies = record {
  first = one ∷ [];
  others = [];
  all_are = refl;
  acts = gives octets ∷ [];
  count = 0;
  done = record { told = []; are_told = All-nil (IsTold a.clock); carries = carries; does = given a b (Some fault.Memory) octets replies };
}

pub ActsBy-says : (path_of : List ℕ → Option (Option Address)) (a b : Around) (queue : List Queued) (octets : List ℕ) (tally : Tally) (met : Option Fault)
    → Replies a b met octets → ActsBy path_of a b queue (act.Say octets ∷ []) tally tally met
ActsBy-says path_of a b queue octets tally met replies =
    gives_by path_of a b queue (act.Say octets) octets tally met ([], refl, (refl, refl)) (tallied-nothing tally) replies

-- the data of an entry of the queue
data_are : (kept : Kept) (queue : List Queued) (number : ℕ) (queued : Queued) → slice_get queue number ≡ Some queued
    → data_text (entry_octets kept queued.entry) ≡ said_octets (messages_of kept queue) number
data_are kept queue number queued there =
    let message = λ (one : Queued). entry_octets kept one.entry in
    sym (ap (λ (found : Option (List ℕ)). option_map_or data_text found []) (slice_get-map message queue number ∙ ap (option_map message) there))

pub ActsBy-data : (path_of : List ℕ → Option (Option Address)) (a b : Around) (queue : List Queued) (number : ℕ) (queued : Queued) (entry : ℕ) (tally : Tally) (met : Option Fault)
    → slice_get queue number ≡ Some queued → entry ≡ queued.entry → Replies a b met (data_text (entry_octets a.desk.store.kept entry)) → ActsBy path_of a b queue (act.SayData number ∷ []) tally tally met
ActsBy-data path_of a b queue number queued entry tally met there is replies =
    let kept = a.desk.store.kept in
    let octets : data_text (entry_octets kept entry) ≡ said_octets (messages_of kept queue) number =
    ap (λ (n : ℕ). data_text (entry_octets kept n)) is ∙ data_are kept queue number queued there in
    gives_by path_of a b queue (act.SayData number) (data_text (entry_octets kept entry)) tally met ([], ap (λ (l : List ℕ). gives l ∷ []) octets, (refl, refl)) (tallied-nothing tally) replies

-- the queue is as it was
pub KeepsQueue-gives : (a b : Around) (queue : List Queued) (one : ClientAct) (met : Option Fault) (octets : List ℕ) → AreKnown a.desk.store.kept queue → settled_count (one ∷ []) ≡ 0
    → Replies a b met octets → KeepsQueue a b queue (one ∷ [])
KeepsQueue-gives a b queue one met octets known none replies =
    let same : b.desk.store.kept ≡ a.desk.store.kept = ap (λ desk. desk.store.kept) replies.leaves.desk in
    record {
      known = subst (λ (kept : Kept). AreKnown kept queue) (sym same) known;
      messages = ap (λ (kept : Kept). messages_of kept queue) same;
      unsettled = λ place are_open settle.
          open_at b.desk.store.kept queue place (place + settled_count (one ∷ [])) (omega (arith, none)) (subst (λ (kept : Kept). AreOpenFrom kept queue place) (sym same) are_open);
    }

-- ---- an entry that is done with

settled_done : (path_of : List ℕ → Option (Option Address)) (a b : Around) (queue : List Queued) (number : ℕ) (queued : Queued) (outcomes : List Outcome) (count : ℕ) (met : Option Fault)
    → slice_get queue number ≡ Some queued → (made : MadeSettled path_of a b queued outcomes count met)
    → ActsDone path_of a b queue (act.Settle number outcomes ∷ []) (map changes made.made ++ []) count met
settled_done path_of a b queue number queued outcomes count met there made = record {
  told = made.told;
  are_told = made.are_told;
  carries = (
    record {
      queued = queued;
      there = there;
      later = [];
      made = made.made;
      own = count;
      settled = made.settled;
      others = [];
      acts_are = refl;
      further = 0;
      count_is = omega arith;
    },
    (refl, refl),
  );
  does = rw (append-nil {A = Act (List ℕ)} (map changes made.made)) made.does;
}

settled_broken : (path_of : List ℕ → Option (Option Address)) (a b : Around) (queue : List Queued) (number : ℕ) (queued : Queued) (outcomes : List Outcome) (count : ℕ) (met : Fault)
    → slice_get queue number ≡ Some queued → MadeSettled path_of a b queued outcomes count (Some met) → ActsBroken path_of a b queue (act.Settle number outcomes ∷ []) met
settled_broken path_of a b queue number queued outcomes count met there made = record {
  first = act.Settle number outcomes ∷ [];
  others = [];
  all_are = refl;
  acts = map changes made.made ++ [];
  count = count;
  done = settled_done path_of a b queue number queued outcomes count (Some met) there made;
}

nothing_done : (path_of : List ℕ → Option (Option Address)) (a b : Around) (queue : List Queued) (all : List ClientAct) (met : Fault) → DoesActs a b (Some met) [] → ActsBroken path_of a b queue all met
nothing_done path_of a b queue all met does = record {
  first = [];
  others = all;
  all_are = refl;
  acts = [];
  count = 0;
  done = record { told = []; are_told = All-nil (IsTold a.clock); carries = (refl, refl); does = does };
}

pub ActsBy-settles : (path_of : List ℕ → Option (Option Address)) (a b : Around) (queue : List Queued) (number : ℕ) (queued : Queued) (outcomes : List Outcome) (old new : Tally) (met : Option Fault)
    → slice_get queue number ≡ Some queued → Settles path_of a b queued outcomes old new met → ActsBy path_of a b queue (act.Settle number outcomes ∷ []) old new met
ActsBy-settles path_of a b queue number queued outcomes old new None there (count, made, new_is) = (
  map changes made.made ++ [],
  count,
  settled_done path_of a b queue number queued outcomes count None there made,
  new_is ∙ same_tally (old.sent + sent_among outcomes) (old.reported + count) (old.left - length outcomes) (old.sent + sent_among outcomes) (old.reported + 0 + count) (old.left - length outcomes) refl (omega arith) refl,
)
ActsBy-settles path_of a b queue number queued outcomes old new (Some fault.Wire) there settles = absurd settles
ActsBy-settles path_of a b queue number queued outcomes old new (Some fault.Keeper) there (count, made) =
    settled_broken path_of a b queue number queued outcomes count fault.Keeper there made
ActsBy-settles path_of a b queue number queued outcomes old new (Some fault.Memory) there (inl (count, made)) =
    settled_broken path_of a b queue number queued outcomes count fault.Memory there made
ActsBy-settles path_of a b queue number queued outcomes old new (Some fault.Memory) there (inr does) =
    nothing_done path_of a b queue (act.Settle number outcomes ∷ []) fault.Memory does

-- what is kept after the changes
kept_after : (a b : Around) (made : List (List Record)) → DoesActs a b None (map changes made) → b.desk.store.kept ≡ after_all a.desk.store.kept (records_of made)
kept_after a b made does =
    let alone : changes_in {P = List ℕ} (map changes made) ≡ made =
    ap (λ (l : List (Act (List ℕ))). changes_in l) (sym (append-nil {A = Act (List ℕ)} (map changes made))) ∙ changes_in-map made [] ∙ append-nil made in
    ap (λ (store : StoreState). store.kept) does.follows.store ∙ ap (λ (l : List (List Record)). after_all a.desk.store.kept (records_of l)) alone

settles_kept : (path_of : List ℕ → Option (Option Address)) (a b : Around) (queue : List Queued) (number : ℕ) (queued : Queued) (outcomes : List Outcome) (old new : Tally)
    → AreKnown a.desk.store.kept queue → slice_get queue number ≡ Some queued → Settles path_of a b queued outcomes old new None → KeepsQueue a b queue (act.Settle number outcomes ∷ [])
settles_kept path_of a b queue number queued outcomes old new known there (count, made, new_is) =
    let after = kept_after a b made.made made.does in
    let stands = stands_settled path_of a.desk.store queued outcomes made.told [] made.made count made.settled in
    record {
      known = subst (λ (kept : Kept). AreKnown kept queue) (sym after) (AreKnown-on a.desk.store.kept _ queue stands known);
      messages = ap (λ (kept : Kept). messages_of kept queue) after ∙ messages_of-on a.desk.store.kept _ queue stands known;
      unsettled = λ place are_open settle.
          let at : number ≡ place = settle.0 in
          subst (λ (kept : Kept). AreOpenFrom kept queue (place + 1)) (sym after)
          (open_after path_of a.desk.store queue place queued outcomes made.told [] made.made count known (rw at at there) made.settled are_open);
    }

-- the entries after it are open as before
pub KeepsQueue-settles : (path_of : List ℕ → Option (Option Address)) (a b : Around) (queue : List Queued) (number : ℕ) (queued : Queued) (outcomes : List Outcome) (old new : Tally) (met : Option Fault)
    → AreKnown a.desk.store.kept queue → slice_get queue number ≡ Some queued → Settles path_of a b queued outcomes old new met → met ≡ None → KeepsQueue a b queue (act.Settle number outcomes ∷ [])
KeepsQueue-settles path_of a b queue number queued outcomes old new met known there settles none = settles_kept path_of a b queue number queued outcomes old new known there (rw none at settles)

-- an entry at the place from which all are open
open_there : (kept : Kept) (queue : List Queued) (place : ℕ) (queued : Queued) → slice_get queue place ≡ Some queued → AreOpenFrom kept queue place → IsOpenIn kept queued
open_there kept [] place queued there are_open = absurd cc
open_there kept (one ∷ queue) zero queued there are_open =
    let same : one ≡ queued = cc in
    subst (IsOpenIn kept) same (All-head (IsOpenIn kept) one queue are_open)
open_there kept (one ∷ queue) (suc place) queued there are_open = open_there kept queue place queued there are_open

-- ---- the entry of an act

pub data_at : (queue : List Queued) (one : ClientAct) (number : ℕ) (queued : Queued) → one ≡ act.SayData number → IsActIn queue one → queued ≡ get_or queue number queued → slice_get queue number ≡ Some queued
data_at queue one number queued is within read = slice_get_read queue (length queue) number queued refl (rw is at within) read

-- an entry that is settled is there, with an outcome for each of its recipients
pub record SettlesAt (queue : List Queued) (number : ℕ) (outcomes : List Outcome) (queued : Queued) : Type 0 where
  pub there : slice_get queue number ≡ Some queued
  pub each : length outcomes ≡ length queued.unsettled

settles_in : (queue : List Queued) (number : ℕ) (outcomes : List Outcome) (queued : Queued) → IsActIn queue (act.Settle number outcomes) → queued ≡ get_or queue number queued → SettlesAt queue number outcomes queued
settles_in queue number outcomes queued (other, there, each, fit) read =
    let same : other ≡ queued = sym (read ∙ get_or_from_slice_get queue number other queued there) in
    record { there = there ∙ ap Some same; each = each ∙ ap (λ (one : Queued). length one.unsettled) same }

pub settles_at : (queue : List Queued) (one : ClientAct) (number : ℕ) (outcomes : List Outcome) (queued : Queued) → one ≡ act.Settle number outcomes → IsActIn queue one → queued ≡ get_or queue number queued
    → SettlesAt queue number outcomes queued
settles_at queue one number outcomes queued is within read = settles_in queue number outcomes queued (rw is at within) read

-- none of its recipients is settled
pub open_settles : (kept : Kept) (queue : List Queued) (one : ClientAct) (number : ℕ) (outcomes : List Outcome) (queued : Queued) → one ≡ act.Settle number outcomes → slice_get queue number ≡ Some queued
    → (place : ℕ) × AreOpenFrom kept queue place × SettleFrom place (one ∷ []) → IsOpenIn kept queued
open_settles kept queue one number outcomes queued is there (place, are_open, settle) =
    let here : SettleFrom place (act.Settle number outcomes ∷ []) = rw is at settle in
    open_there kept queue place queued (rw here.0 at there) are_open
