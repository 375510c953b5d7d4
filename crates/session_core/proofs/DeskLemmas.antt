-- What a store keeps of its name and of its messages' trees and dates, whatever is put last in it.
use Rattle.std.proofs.Common.{◌≡◌, ℕ, cond, Bool, true, false, List, [], ◌∷◌, map, Option, None, Some, Result, Ok, Err, refl, sym, ap, ◌∙◌, subst, append-nil}
use Rattle.std.specs.Prelude.{codes, slice_index_or}
use Rattle.std.proofs.lemmas.List.Elements.{All-push}
use Rattle.mail_wire.specs.KeeperState.{KeeperState}
use Rattle.mail_wire.specs.Keeping.{HasKeeperCause}
use Rattle.mail_wire.specs.declared.outside.Fault.{Fault}
use Rattle.mail_wire.specs.declared.outside.Fault.TheVariants as fault
use Rattle.mail_wire.proofs.Moving.{GoesOn-nil, HasWireCause-fine}
use Rattle.mail_store.specs.Changing.{Changes, IsRefusedAs, append_refusal, delivery_refusal, expunged, folder_refusal}
use Rattle.kept_mail.specs.Deliveries.{copy_for, delivered, inboxes_of, queued}
use Rattle.mail_store.specs.Following.{records_of}
use Rattle.kept_mail.specs.Kept.{Kept, after_record, after_all, change_at, gone, name_of, with_flags}
use Rattle.kept_mail.specs.Records.{AreRecords, IsRecord}
use Rattle.journal_records.specs.Grammar.{IsDate, kept_name}
use Rattle.journal_records.specs.Stored.{IsStored}
use Rattle.journal_records.specs.Versions.{version_after}
use Rattle.journal_records.specs.declared.versions.Version.{Version}
use Rattle.journal_records.specs.declared.versions.Version.TheVariants as versions
use Rattle.mail_store.specs.StoreState.{StoreState, AreStored}
use Rattle.mail_store.specs.declared.changing.StoreFault.{StoreFault}
use Rattle.mail_store.specs.declared.changing.StoreFault.TheVariants as faults
use Rattle.kept_mail.specs.declared.delivery.Delivery.{Delivery}
use Rattle.kept_mail.specs.declared.kept.Message.{Message}
use Rattle.journal_records.specs.declared.records.Record.{Record}
use Rattle.journal_records.specs.declared.records.Record.TheVariants as records
use Rattle.mail_store.proofs.AppendLemmas.{stored_with}
use Rattle.mail_store.proofs.ChangeLemmas.{after_all-append}
use Rattle.mail_store.proofs.DeliveryLemmas.{after-copies}
use Rattle.mail_store.proofs.IndexLemmas.{AreStored-same}
use Rattle.kept_mail.proofs.SameMessages.{AreSameMessages-flags, AreSameMessages-gone}
use Rattle.session_core.specs.Around.{Around}
use Rattle.session_core.specs.Changes.{append_changes, calls_of, changes_of, folder_changes, unless_refused}
use Rattle.session_core.specs.Desks.{IsCacheOf}
use Rattle.session_core.specs.Doing.{IsChanged}
use Rattle.session_core.specs.Keeps.{Keeps, answer_of, fault_of}
use Rattle.session_core.proofs.CachedLemmas.{IsCacheOf-after}

-- ---- what holds after any records

stored_after : (version : Version) (kept : Kept) (one : Record) → IsRecord version kept one → AreStored kept.messages → AreStored (after_record kept one).messages
stored_after version kept (records.Message folder flags mark date octets) is stored =
    let message : Message = record { folder = folder; flags = flags; live = true; date = date; octets = octets } in
    record {
      each = All-push (λ (m : Message). IsStored m.octets) kept.messages message stored.each (stored_with mark octets is.in_order.3);
      dated = All-push (λ (m : Message). IsDate m.date) kept.messages message stored.dated is.in_order.2;
    }
stored_after version kept (records.Flags message flags) is stored = AreStored-same kept.messages (change_at (with_flags flags) kept.messages message) stored (AreSameMessages-flags flags kept.messages message)
stored_after version kept (records.Expunge message) is stored = AreStored-same kept.messages (change_at gone kept.messages message) stored (AreSameMessages-gone kept.messages message)
stored_after version kept (records.Account address password) is stored = stored
stored_after version kept (records.Domain name) is stored = stored
stored_after version kept (records.Folder account name) is stored = stored
stored_after version kept (records.Queue path addresses mark octets) is stored = stored
stored_after version kept (records.Settle entry index) is stored = stored
stored_after version kept records.Version is stored = stored

-- so it is after changes
pub AreStored-after : (version : Version) (kept : Kept) (all : List Record) → AreRecords version kept all → AreStored kept.messages → AreStored (after_all kept all).messages
AreStored-after version kept [] are stored = stored
AreStored-after version kept (one ∷ others) are stored =
    AreStored-after (version_after version one) (after_record kept one) others are.1 (stored_after version kept one are.0 stored)

-- ---- a store's name stays

-- no domain comes with what waits
pub queue_domains : (kept : Kept) (none : Bool) (path : List ℕ) (addresses : List (List ℕ)) (mark : Option ℕ) (octets : List ℕ)
    → (after_all kept (cond none [] (records.Queue path addresses mark octets ∷ []))).domains ≡ kept.domains
queue_domains kept true path addresses mark octets = refl
queue_domains kept false path addresses mark octets = refl

pub queued_domains : (kept : Kept) (delivery : Delivery) → (after_all kept (queued delivery)).domains ≡ kept.domains
queued_domains kept delivery = queue_domains kept _ _ _ _ _

pub delivered_domains : (kept : Kept) (delivery : Delivery) → (after_all kept (delivered kept delivery)).domains ≡ kept.domains
delivered_domains kept delivery =
    let copies = map (copy_for delivery.date delivery.local_mark delivery.local_octets) (inboxes_of kept delivery.local) in
    ap (λ (k : Kept). k.domains) (after_all-append kept copies (queued delivery)) ∙ queued_domains (after_all kept copies) delivery
    ∙ ap (λ (k : Kept). k.domains) (after-copies kept delivery.date delivery.local_mark delivery.local_octets (inboxes_of kept delivery.local))

same_name : (old new : Kept) → new.domains ≡ old.domains → name_of new ≡ name_of old
same_name old new same = ap (λ (l : List (List ℕ)). slice_index_or l 0 (codes "localhost")) same

-- what isn't refused is one change
unrefused : (refusal : Option StoreFault) (all : List Record) → refusal ≡ None → unless_refused refusal all ≡ all ∷ []
unrefused refusal all none = rw none refl

-- a call of the store in which the keeper failed broke off its one change
pub broken_off : (T : Type 0) (old new : StoreState) (had has : Option (List ℕ)) (met : StoreFault) (refusal : Option StoreFault) (all : List Record) → met ≡ faults.Keeper
    → Changes {T = T} old new had has (Err met) all → IsRefusedAs {T = T} (Err met) refusal → IsChanged old new had has (Some fault.Keeper) (unless_refused refusal all)
broken_off T old new had has met refusal all is changes refused =
    let changed : Changes {T = T} old new had has (Err faults.Keeper) all = subst (λ (m : StoreFault). Changes {T = T} old new had has (Err m) all) is changes in
    let none : IsRefusedAs {T = T} (Err faults.Keeper) refusal = subst (λ (m : StoreFault). IsRefusedAs {T = T} (Err m) refusal) is refused in
    (all, unrefused refusal all none, record { records = changed.0; store = changed.1; count = changed.2; journal = changed.3 })

-- these changes leave the name as it is
abbrev pub KeepsName : StoreState → List (List Record) → Type 0
KeepsName store made = name_of (after_all store.kept (records_of made)) ≡ name_of store.kept

unless_name : (store : StoreState) (all : List Record) (refusal : Option StoreFault) → (after_all store.kept all).domains ≡ store.kept.domains → KeepsName store (unless_refused refusal all)
unless_name store all None same = rw (append-nil all) (same_name store.kept (after_all store.kept all) same)
unless_name store all (Some refusal) same = refl

delivery_name : (store : StoreState) (delivery : Delivery) → KeepsName store (changes_of store delivery)
delivery_name store delivery = unless_name store (delivered store.kept delivery) (delivery_refusal store delivery) (delivered_domains store.kept delivery)

pub expunged_domains : (kept : Kept) (ids : List ℕ) → (after_all kept (expunged ids)).domains ≡ kept.domains
expunged_domains kept [] = refl
expunged_domains kept (id ∷ ids) = expunged_domains (after_record kept (records.Expunge id)) ids

calls_name : (store : StoreState) (all : List Record) → (after_all store.kept all).domains ≡ store.kept.domains → KeepsName store (calls_of all)
calls_name store [] same = refl
calls_name store (one ∷ others) same = rw (append-nil (one ∷ others)) (same_name store.kept (after_all store.kept (one ∷ others)) same)

expunged_name : (store : StoreState) (ids : List ℕ) → KeepsName store (calls_of (expunged ids))
expunged_name store ids = calls_name store (expunged ids) (expunged_domains store.kept ids)

flags_name : (store : StoreState) (id flags : ℕ) → KeepsName store ((records.Flags id flags ∷ []) ∷ [])
flags_name store id flags = refl

settle_name : (store : StoreState) (entry index : ℕ) → KeepsName store ((records.Settle entry index ∷ []) ∷ [])
settle_name store entry index = refl

folder_name : (store : StoreState) (account : ℕ) (name : List ℕ) → KeepsName store (folder_changes store account name)
folder_name store account name = unless_name store (records.Folder account (kept_name name) ∷ []) (folder_refusal store.kept account name) refl

append_name : (store : StoreState) (folder flags mark : ℕ) (date octets : List ℕ) → KeepsName store (append_changes store folder flags mark date octets)
append_name store folder flags mark date octets = unless_name store (records.Message folder flags (Some mark) date octets ∷ []) (append_refusal store octets) refl

-- ---- what a change leaves

abbrev pub with_store : Around → StoreState → KeeperState → Around
with_store a store keeper = record a { desk = record a.desk { store = store }; keeper = keeper }

changed_keeps : (a : Around) (store : StoreState) (keeper : KeeperState) (met : Option Fault) (made : List (List Record)) → KeepsName a.desk.store made
    → IsChanged a.desk.store store a.keeper.octets keeper.octets met made → HasKeeperCause a.keeper keeper (answer_of met) fault.Keeper → ¬ (met ≡ Some fault.Wire) → Keeps a (with_store a store keeper) met
changed_keeps a store keeper None made named changed cause wire = record {
  wire = HasWireCause-fine a.wire a.wire (answer_of None) fault.Wire (GoesOn-nil a.wire) (λ bad. cc);
  keeper = cause;
  works = λ fine opens. record {
    limits = opens.limits;
    agrees = rw changed.store opens.agrees;
    works = rw changed.store opens.works;
    named = rw (changed.store, named) opens.named;
    stored = rw changed.store (AreStored-after versions.Two a.desk.store.kept (records_of made) changed.records opens.stored);
    cached = subst (λ (s : StoreState). IsCacheOf a.desk.cache s.kept) (sym changed.store) (IsCacheOf-after a.desk.cache a.desk.store.kept (records_of made) opens.cached);
    places = opens.places;
  };
  limit = rw changed.store refl;
  name = rw changed.store named;
  limits = refl;
  clock = refl;
  loans = refl;
}
changed_keeps a store keeper (Some fault.Keeper) made named changed cause wire = record {
  wire = HasWireCause-fine a.wire a.wire (answer_of (Some fault.Keeper)) fault.Wire (GoesOn-nil a.wire) (λ bad. cc);
  keeper = cause;
  works = λ fine opens. absurd (fine refl);
  limit = rw changed.2.store refl;
  name = rw changed.2.store refl;
  limits = refl;
  clock = refl;
  loans = refl;
}
changed_keeps a store keeper (Some fault.Memory) made named changed cause wire = record {
  wire = HasWireCause-fine a.wire a.wire (answer_of (Some fault.Memory)) fault.Wire (GoesOn-nil a.wire) (λ bad. cc);
  keeper = cause;
  works = λ fine opens. rw changed.0 opens;
  limit = rw changed.0 refl;
  name = rw changed.0 refl;
  limits = refl;
  clock = refl;
  loans = refl;
}
changed_keeps a store keeper (Some fault.Wire) made named changed cause wire = absurd (wire refl)

met_is : (T : Type 0) (met other : Fault) (result : Result T Fault) → result ≡ Err met → result ≡ Err other → met ≡ other
met_is T met other result h k = cc

as_some : (met other : Fault) → Some met ≡ Some other → met ≡ other
as_some met other h = cc

-- the same by a call's answer
answered : {T : Type 0} (a : Around) (store : StoreState) (keeper : KeeperState) (result : Result T Fault) (made : List (List Record)) → KeepsName a.desk.store made
    → IsChanged a.desk.store store a.keeper.octets keeper.octets (fault_of result) made → HasKeeperCause a.keeper keeper result fault.Keeper → ¬ (result ≡ Err fault.Wire) → Keeps a (with_store a store keeper) (fault_of result)
answered a store keeper (Ok x) made named changed cause wire =
    changed_keeps a store keeper None made named changed (record { later = cause.later; rose = λ bad. absurd cc; sure = λ sure. ((cause.sure sure).0, λ bad. cc) }) (λ bad. cc)
answered a store keeper (Err met) made named changed cause wire =
    changed_keeps a store keeper (Some met) made named changed (record {
      later = cause.later;
      rose = λ is. cause.rose (rw (met_is (Unit {0}) met fault.Keeper (Err met) refl is) refl);
      sure = λ sure. ((cause.sure sure).0, λ is. (cause.sure sure).1 (rw (met_is (Unit {0}) met fault.Keeper (Err met) refl is) refl));
    }) (λ is. wire (rw (as_some met fault.Wire is) refl))

pub deliver_keeps : {T : Type 0} (a : Around) (store : StoreState) (keeper : KeeperState) (result : Result T Fault) (delivery : Delivery)
    → IsChanged a.desk.store store a.keeper.octets keeper.octets (fault_of result) (changes_of a.desk.store delivery) → HasKeeperCause a.keeper keeper result fault.Keeper → ¬ (result ≡ Err fault.Wire)
    → Keeps a (with_store a store keeper) (fault_of result)
deliver_keeps a store keeper result delivery = answered a store keeper result (changes_of a.desk.store delivery) (delivery_name a.desk.store delivery)

pub expunge_keeps : {T : Type 0} (a : Around) (store : StoreState) (keeper : KeeperState) (result : Result T Fault) (ids : List ℕ)
    → IsChanged a.desk.store store a.keeper.octets keeper.octets (fault_of result) (calls_of (expunged ids)) → HasKeeperCause a.keeper keeper result fault.Keeper → ¬ (result ≡ Err fault.Wire)
    → Keeps a (with_store a store keeper) (fault_of result)
expunge_keeps a store keeper result ids = answered a store keeper result (calls_of (expunged ids)) (expunged_name a.desk.store ids)

pub flags_keeps : {T : Type 0} (a : Around) (store : StoreState) (keeper : KeeperState) (result : Result T Fault) (id flags : ℕ)
    → IsChanged a.desk.store store a.keeper.octets keeper.octets (fault_of result) ((records.Flags id flags ∷ []) ∷ []) → HasKeeperCause a.keeper keeper result fault.Keeper → ¬ (result ≡ Err fault.Wire)
    → Keeps a (with_store a store keeper) (fault_of result)
flags_keeps a store keeper result id flags = answered a store keeper result ((records.Flags id flags ∷ []) ∷ []) (flags_name a.desk.store id flags)

pub settle_keeps : {T : Type 0} (a : Around) (store : StoreState) (keeper : KeeperState) (result : Result T Fault) (entry index : ℕ)
    → IsChanged a.desk.store store a.keeper.octets keeper.octets (fault_of result) ((records.Settle entry index ∷ []) ∷ []) → HasKeeperCause a.keeper keeper result fault.Keeper → ¬ (result ≡ Err fault.Wire)
    → Keeps a (with_store a store keeper) (fault_of result)
settle_keeps a store keeper result entry index = answered a store keeper result ((records.Settle entry index ∷ []) ∷ []) (settle_name a.desk.store entry index)

pub folder_keeps : {T : Type 0} (a : Around) (store : StoreState) (keeper : KeeperState) (result : Result T Fault) (account : ℕ) (name : List ℕ)
    → IsChanged a.desk.store store a.keeper.octets keeper.octets (fault_of result) (folder_changes a.desk.store account name) → HasKeeperCause a.keeper keeper result fault.Keeper → ¬ (result ≡ Err fault.Wire)
    → Keeps a (with_store a store keeper) (fault_of result)
folder_keeps a store keeper result account name = answered a store keeper result (folder_changes a.desk.store account name) (folder_name a.desk.store account name)

pub append_keeps : {T : Type 0} (a : Around) (store : StoreState) (keeper : KeeperState) (result : Result T Fault) (folder flags mark : ℕ) (date octets : List ℕ)
    → IsChanged a.desk.store store a.keeper.octets keeper.octets (fault_of result) (append_changes a.desk.store folder flags mark date octets) → HasKeeperCause a.keeper keeper result fault.Keeper → ¬ (result ≡ Err fault.Wire)
    → Keeps a (with_store a store keeper) (fault_of result)
append_keeps a store keeper result folder flags mark date octets =
    answered a store keeper result (append_changes a.desk.store folder flags mark date octets) (append_name a.desk.store folder flags mark date octets)
