-- The cache of a desk goes on being that of its store: over fetches, and over whatever is put last in the store.
use Rattle.std.proofs.Common.{◌≡◌, ◌<◌, ◌≤◌, ℕ, zero, suc, List, [], ◌∷◌, ◌++◌, length, Result, Ok, Err, Option, None, Some, true, refl, sym, subst, ◌∙◌, arith, length-append}
use Rattle.std.specs.Prelude.{OnErr, OnOk, option_map, slice_get}
use Rattle.std.specs.List.{AllByRecursion}
use Rattle.std.specs.Option.{option_map_or}
use Rattle.mail_wire.specs.declared.outside.Fault.TheVariants as fault
use Rattle.mail_wire.proofs.Moving.{GoesOn-nil, HasWireCause-fine}
use Rattle.journal_records.specs.declared.records.Record.{Record}
use Rattle.journal_records.specs.declared.records.Record.TheVariants as records
use Rattle.kept_mail.specs.Kept.{Kept, after_all, after_record, change_at, gone, with_flags}
use Rattle.kept_mail.specs.declared.kept.Message.{Message}
use Rattle.kept_mail.proofs.SameMessages.{length-change_at}
use Rattle.surrogate_cache.specs.Caching.{Asked, CacheState, Fetched, IsHeldOf, IsStoredOf, LosesShown, asked_by}
use Rattle.surrogate_cache.specs.Served.{Mode, legacy, enabled, is_enabled}
use Rattle.surrogate_cache.proofs.HeldLemmas.{HoldsEach-held, HoldsEach-none, HoldsEach-weaker, HoldsOfRopes, KeepsLimits, LosesShown-limits, Fetched-limits, fetched_holds, lost_shown_holds}
use Rattle.session_core.specs.Around.{Around}
use Rattle.session_core.specs.Desks.{IsCacheWithin, IsCacheOf, IsOpen, IsRopeOfKept, kept_octets}
use Rattle.session_core.specs.Doing.{Asks, wanting}
use Rattle.session_core.specs.Keeps.{Keeps, answer_of}
use Rattle.session_core.specs.declared.desk.Limits.{Limits}
use Rattle.session_core.proofs.KeepsLemmas.{Keeps-memory, keeper_still}

-- ---- what is put last

abbrev octets_at : List Message → ℕ → List ℕ
octets_at messages id = option_map_or (λ (message : Message). message.octets) (slice_get messages id) []

octets_before : (messages more : List Message) (id : ℕ) → id < length messages → octets_at (messages ++ more) id ≡ octets_at messages id
octets_before [] more id low = absurd (omega arith)
octets_before (message ∷ messages) more zero low = refl
octets_before (message ∷ messages) more (suc id) low = octets_before messages more id (omega (arith, low))

octets_changed : (change : Message → Message) → ((message : Message) → (change message).octets ≡ message.octets) → (messages : List Message) (at id : ℕ) → octets_at (change_at change messages at) id ≡ octets_at messages id
octets_changed change keeps [] at id = refl
octets_changed change keeps (message ∷ messages) zero zero = keeps message
octets_changed change keeps (message ∷ messages) zero (suc id) = refl
octets_changed change keeps (message ∷ messages) (suc at) zero = refl
octets_changed change keeps (message ∷ messages) (suc at) (suc id) = octets_changed change keeps messages at id

rope_still : (kept next : Kept) (id : ℕ) (stored : List ℕ) → length kept.messages ≤ length next.messages → kept_octets next id ≡ kept_octets kept id → IsRopeOfKept kept id stored → IsRopeOfKept next id stored
rope_still kept next id stored longer same is =
    record { known = omega (arith, is.known, longer); rope = subst (λ (octets : List ℕ). IsStoredOf octets stored) (sym same) is.rope }

rope_next : (kept : Kept) (one : Record) (id : ℕ) (stored : List ℕ) → IsRopeOfKept kept id stored → IsRopeOfKept (after_record kept one) id stored
rope_next kept (records.Message folder flags mark date octets) id stored is =
    rope_still kept (after_record kept (records.Message folder flags mark date octets)) id stored (rw length-append (omega arith)) (octets_before kept.messages _ id is.known) is
rope_next kept (records.Flags message flags) id stored is =
    rope_still kept (after_record kept (records.Flags message flags)) id stored (rw (length-change_at (with_flags flags) kept.messages message) (omega arith))
    (octets_changed (with_flags flags) (λ one. refl) kept.messages message id) is
rope_next kept (records.Expunge message) id stored is =
    rope_still kept (after_record kept (records.Expunge message)) id stored (rw (length-change_at gone kept.messages message) (omega arith)) (octets_changed gone (λ one. refl) kept.messages message id) is
rope_next kept (records.Account address password) id stored is = record { known = is.known; rope = is.rope }
rope_next kept (records.Domain name) id stored is = record { known = is.known; rope = is.rope }
rope_next kept (records.Folder account name) id stored is = record { known = is.known; rope = is.rope }
rope_next kept (records.Queue path addresses mark octets) id stored is = record { known = is.known; rope = is.rope }
rope_next kept (records.Settle entry index) id stored is = record { known = is.known; rope = is.rope }
rope_next kept records.Version id stored is = is

rope_after : (kept : Kept) (all : List Record) (id : ℕ) (stored : List ℕ) → IsRopeOfKept kept id stored → IsRopeOfKept (after_all kept all) id stored
rope_after kept [] id stored is = is
rope_after kept (one ∷ others) id stored is = rope_after (after_record kept one) others id stored (rope_next kept one id stored is)

-- the cache of a store is that of the store after any records
pub IsCacheOf-after : (cache : CacheState) (kept : Kept) (all : List Record) → IsCacheOf cache kept → IsCacheOf cache (after_all kept all)
IsCacheOf-after cache kept all is = HoldsEach-weaker (IsRopeOfKept kept) (IsRopeOfKept (after_all kept all)) cache is (rope_after kept all)

-- a new cache is that of any store
pub IsCacheOf-new : (cache : CacheState) (kept : Kept) → cache.entries ≡ [] → IsCacheOf cache kept
IsCacheOf-new cache kept none = HoldsEach-none (IsRopeOfKept kept) cache none

-- ---- fetches

octets_found : (found : Option Message) (octets : List ℕ) → option_map (λ (message : Message). message.octets) found ≡ Some octets → octets ≡ option_map_or (λ (message : Message). message.octets) found []
octets_found None octets is = absurd cc
octets_found (Some message) octets is = cc

-- what the cache of a store holds under a number is of the message
pub held_of : (cache : CacheState) (kept : Kept) (id : ℕ) (octets : List ℕ) → option_map (λ (message : Message). message.octets) (slice_get kept.messages id) ≡ Some octets → IsCacheOf cache kept → IsHeldOf cache id octets
held_of cache kept id octets found is =
    subst (λ (msg : List ℕ). IsHeldOf cache id msg) (sym (octets_found (slice_get kept.messages id) octets found))
    (HoldsEach-held (IsRopeOfKept kept) cache id (kept_octets kept id) is (λ stored held. held.rope))

asked_ropes : (kept : Kept) (mode : Mode) (id : ℕ) → id < length kept.messages → AllByRecursion (HoldsOfRopes (IsRopeOfKept kept)) (asked_by mode id (kept_octets kept id))
asked_ropes kept legacy id known = (λ stored of_message. record { known = known; rope = of_message }, tt)
asked_ropes kept enabled id known = tt

abbrev pub with_cache : Around → CacheState → Around
with_cache a cache = record a { desk = record a.desk { cache = cache } }

places_still : (limits : Limits) (old new : CacheState) → KeepsLimits old new → IsCacheWithin limits old → IsCacheWithin limits new
places_still limits old new keeps places = record { blocks = keeps.blocks ∙ places.blocks; places = keeps.places ∙ places.places }

-- another cache of the same store and limits
cache_keeps : (a : Around) (cache : CacheState) → IsCacheOf cache a.desk.store.kept → KeepsLimits a.desk.cache cache → Keeps a (with_cache a cache) None
cache_keeps a cache of_store limits = record {
  wire = HasWireCause-fine a.wire a.wire (answer_of None) fault.Wire (GoesOn-nil a.wire) (λ bad. cc);
  keeper = keeper_still a.keeper;
  works = λ fine opens. record {
    limits = opens.limits;
    agrees = opens.agrees;
    works = opens.works;
    named = opens.named;
    stored = opens.stored;
    cached = of_store;
    places = places_still a.desk.limits a.desk.cache cache limits opens.places;
  };
  limit = refl;
  name = refl;
  limits = refl;
  clock = refl;
  loans = refl;
}

-- a session is shown a message by way of the cache, or there is no memory for that
pub shown_keeps : {T E : Type 0} (a : Around) (cache : CacheState) (result : Result T E) (mode : Mode) (id : ℕ) → IsOpen a.desk → id < length a.desk.store.kept.messages
    → OnOk result (Fetched a.desk.cache (asked_by mode id (kept_octets a.desk.store.kept id)) cache) → OnErr result (LosesShown mode (kept_octets a.desk.store.kept id) a.desk.cache cache id)
    → Keeps a (with_cache a cache) (wanting result)
shown_keeps a cache (Ok shown) mode id opens known fetched loses =
    let kept = a.desk.store.kept in
    let asked = asked_by mode id (kept_octets kept id) in
    cache_keeps a cache (fetched_holds (IsRopeOfKept kept) asked a.desk.cache cache (asked_ropes kept mode id known) opens.cached fetched) (Fetched-limits asked a.desk.cache cache fetched)
shown_keeps a cache (Err memory) mode id opens known fetched loses =
    let kept = a.desk.store.kept in
    let octets = kept_octets kept id in
    Keeps-memory a (with_cache a cache)
    (cache_keeps a cache (lost_shown_holds (IsRopeOfKept kept) mode octets a.desk.cache cache id opens.cached loses) (LosesShown-limits mode octets a.desk.cache cache id loses))

pub shown_asks : {T E : Type 0} (a : Around) (cache : CacheState) (result : Result T E) (asked : List Asked) → OnOk result (Fetched a.desk.cache asked cache) → Asks a (with_cache a cache) (wanting result) asked
shown_asks a cache (Ok shown) asked fetched = record { wire = refl; store = refl; keeper = refl; fetched = λ whole. fetched }
shown_asks a cache (Err memory) asked fetched = record { wire = refl; store = refl; keeper = refl; fetched = λ whole. absurd (broken whole) }
  where
    broken : Some fault.Memory ≡ None → ⊥
    broken is = cc

-- an enabled session asks for nothing
pub asked_none : (mode : Mode) (id : ℕ) (octets : List ℕ) (cache : CacheState) → is_enabled mode ≡ true → Fetched cache (asked_by mode id octets) cache
asked_none legacy id octets cache is = absurd cc
asked_none enabled id octets cache is = refl
