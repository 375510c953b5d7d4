-- What fetches keep: what holds of each stored form that is held, and how many blocks and places there are.
use Rattle.std.proofs.Common.{◌≡◌, ◌≢◌, ℕ, zero, suc, ◌+◌, ◌-◌, ◌^◌, min, List, [], ◌∷◌, ◌++◌, length, Bool, true, false, if◌then◌else◌, nat_eq, Option, Some, None, IfSome, Contains, arith, refl, sym, ap, subst, ◌∙◌, inl, inr}
use Rattle.std.specs.List.{AllByRecursion}
use Rattle.std.proofs.lemmas.Option.{IfSome_then}
use Rattle.std.proofs.lemmas.Bool.{ne_eqb}
use Rattle.std.proofs.lemmas.Bool.Decides.{eqb_tells, leb_tells}
use Rattle.block_pool.specs.Pool.{needed_blocks}
use Rattle.surrogate_rope.specs.Ropes.{RopeValue}
use Rattle.surrogate_cache.specs.Served.{Mode, legacy, enabled}
use Rattle.surrogate_cache.specs.Caching.{Entry, CacheState, IsStoredOf, IsHeldOf, stored_under, entries_without, entries_within, entries_beside, entries_built, entry_blocks, Fetches, LosesFetch, HoldsEach, Asked, Fetched, asked_by, LosesShown, one_more, AreCounts, HasCounted, WasHeldOrAsked}
use Rattle.surrogate_cache.specs.declared.caching.Counts.{Counts}
use Rattle.surrogate_cache.proofs.RoomLemmas.{first_fits}

-- another number has what it had
stored_under-without : (entries : List Entry) (id other : ℕ) → other ≢ id → stored_under (entries_without entries id) other ≡ stored_under entries other
stored_under-without [] id other differ = refl
stored_under-without (entry ∷ entries) id other differ =
    elim (eqb_tells id entry.id) [
      | inl same ↦
          let distinct : other ≢ entry.id = λ is. differ (is ∙ sym same.1) in
          rw same.0 (sym (ap (λ (b : Bool). if b then Some entry.stored else stored_under entries other) (ne_eqb other entry.id distinct)))
      | inr other_id ↦
          rw other_id.0 (ap (λ (rest : Option (List ℕ)). if nat_eq other entry.id then Some entry.stored else rest) (stored_under-without entries id other differ))
    ]

-- what holds of the stored form under a number holds of it among those that stay
within_holds : (P : List ℕ → Type 0) (entries : List Entry) (blocks places id : ℕ) → IfSome (stored_under entries id) P → IfSome (stored_under (entries_within blocks places entries) id) P
within_holds P [] blocks places id holds = tt
within_holds P (entry ∷ entries) blocks places id holds =
    elim (first_fits blocks places entry) [
      | inl room ↦ rw room.0 (following P (nat_eq id entry.id) entry.stored (stored_under entries id) (stored_under (entries_within (blocks - entry_blocks entry) (places - 1) entries) id) holds
          (within_holds P entries (blocks - entry_blocks entry) (places - 1) id))
      | inr none ↦ rw none.0 tt
    ]
  where
    following : (P : List ℕ → Type 0) (b : Bool) (stored : List ℕ) (old new : Option (List ℕ)) → IfSome (if b then Some stored else old) P → (IfSome old P → IfSome new P)
        → IfSome (if b then Some stored else new) P
    following P true stored old new holds keeps = holds
    following P false stored old new holds keeps = keeps holds

-- an entry before others
first_holds : (P : ℕ → List ℕ → Type 0) (id : ℕ) (stored : List ℕ) (entries : List Entry) → P id stored → ((other : ℕ) → other ≢ id → IfSome (stored_under entries other) (P other))
    → (other : ℕ) → IfSome (stored_under ((record { id = id; stored = stored }) ∷ entries) other) (P other)
first_holds P id stored entries first rest other =
    elim (eqb_tells other id) [
      | inl same ↦ rw same.0 (subst (λ (n : ℕ). P n stored) (sym same.1) first)
      | inr differ ↦ rw differ.0 (rest other differ.1)
    ]

hit_holds : (P : ℕ → List ℕ → Type 0) (entries : List Entry) (id : ℕ) (stored : List ℕ) → stored_under entries id ≡ Some stored → ((other : ℕ) → IfSome (stored_under entries other) (P other))
    → (other : ℕ) → IfSome (stored_under ((record { id = id; stored = stored }) ∷ entries_without entries id) other) (P other)
hit_holds P entries id stored found holds =
    first_holds P id stored (entries_without entries id) (subst (λ (o : Option (List ℕ)). IfSome o (P id)) found (holds id))
    (λ other differ. subst (λ (o : Option (List ℕ)). IfSome o (P other)) (sym (stored_under-without entries id other differ)) (holds other))

built_holds : (P : ℕ → List ℕ → Type 0) (blocks places : ℕ) (entries : List Entry) (id : ℕ) (stored : List ℕ) → P id stored → ((other : ℕ) → IfSome (stored_under entries other) (P other))
    → (other : ℕ) → IfSome (stored_under (entries_built blocks places entries id stored) other) (P other)
built_holds P blocks places entries id stored first holds other =
    elim (leb_tells (needed_blocks (length stored)) blocks) [
      | inl fits ↦ rw fits.0 (first_holds P id stored (entries_beside blocks places entries stored) first
          (λ one differ. within_holds (P one) entries (blocks - needed_blocks (length stored)) (places - 1) one (holds one)) other)
      | inr large ↦ rw large.0 (holds other)
    ]

-- After a fetch of a message what holds of each stored form holds still, if it holds of those of the message's ropes under its number.
pub fetch_holds : (P : ℕ → List ℕ → Type 0) (msg : List ℕ) (old new : CacheState) (id : ℕ) (rope : RopeValue) → ((stored : List ℕ) → IsStoredOf msg stored → P id stored)
    → HoldsEach P old → Fetches msg old new id rope → HoldsEach P new
fetch_holds P msg old new id rope each holds (inl (stored, found, form, becomes)) =
    subst (HoldsEach P) (sym becomes) (hit_holds P old.entries id stored found holds)
fetch_holds P msg old new id rope each holds (inr builds) =
    subst (HoldsEach P) (sym builds.becomes)
    (built_holds P old.blocks old.places old.entries id builds.stored (each builds.stored (record { rope = rope; stored = builds.stored_is; of_message = builds.of_message })) holds)

-- The same of one that is refused.
pub lost_holds : (P : ℕ → List ℕ → Type 0) (msg : List ℕ) (old new : CacheState) (id : ℕ) → HoldsEach P old → LosesFetch msg old new id → HoldsEach P new
lost_holds P msg old new id holds (inl (stored, found, becomes)) = subst (HoldsEach P) (sym becomes) (hit_holds P old.entries id stored found holds)
lost_holds P msg old new id holds (inr loses) =
    elim loses.stays [
      | inl same ↦ subst (HoldsEach P) (sym same) holds
      | inr gone ↦ subst (HoldsEach P) (sym gone.2)
          (λ other. within_holds (P other) old.entries (old.blocks - needed_blocks (length gone.0)) (old.places - 1) other (holds other))
    ]

-- It holds of the stored forms of all ropes of an asked message, under its number.
abbrev pub HoldsOfRopes : (ℕ → List ℕ → Type 0) → Asked → Type 0
HoldsOfRopes P one = (stored : List ℕ) → IsStoredOf one.octets stored → P one.id stored

-- what is asked to show a message
pub asked_by_holds : (P : ℕ → List ℕ → Type 0) (mode : Mode) (id : ℕ) (msg : List ℕ) → ((stored : List ℕ) → IsStoredOf msg stored → P id stored) → AllByRecursion (HoldsOfRopes P) (asked_by mode id msg)
asked_by_holds P legacy id msg each = (each, tt)
asked_by_holds P enabled id msg each = tt

-- The same of fetches of these messages.
pub fetched_holds : (P : ℕ → List ℕ → Type 0) (asked : List Asked) (old new : CacheState) → AllByRecursion (HoldsOfRopes P) asked → HoldsEach P old → Fetched old asked new → HoldsEach P new
fetched_holds P [] old new each holds same = subst (HoldsEach P) (sym same) holds
fetched_holds P (one ∷ asked) old new each holds (mid, rope, first, rest) =
    fetched_holds P asked mid new each.1 (fetch_holds P one.octets old mid one.id rope each.0 holds first) rest

-- The same where a session wasn't shown a message for want of memory.
pub lost_shown_holds : (P : ℕ → List ℕ → Type 0) (mode : Mode) (msg : List ℕ) (old new : CacheState) (id : ℕ) → HoldsEach P old → LosesShown mode msg old new id → HoldsEach P new
lost_shown_holds P legacy msg old new id holds loses = lost_holds P msg old new id holds loses
lost_shown_holds P enabled msg old new id holds same = subst (HoldsEach P) (sym same) holds

-- The same where a session was shown a message.
pub shown_holds : (P : ℕ → List ℕ → Type 0) (mode : Mode) (msg : List ℕ) (old new : CacheState) (id : ℕ) → ((stored : List ℕ) → IsStoredOf msg stored → P id stored)
    → HoldsEach P old → Fetched old (asked_by mode id msg) new → HoldsEach P new
shown_holds P mode msg old new id each holds fetched = fetched_holds P (asked_by mode id msg) old new (asked_by_holds P mode id msg each) holds fetched

-- what holds of each stored form, by what holds of it
pub HoldsEach-weaker : (P Q : ℕ → List ℕ → Type 0) (state : CacheState) → HoldsEach P state → ((id : ℕ) (stored : List ℕ) → P id stored → Q id stored) → HoldsEach Q state
HoldsEach-weaker P Q state holds weaker id = IfSome_then (stored_under state.entries id) (holds id) (weaker id)

-- a cache without entries holds nothing
pub HoldsEach-none : (P : ℕ → List ℕ → Type 0) (state : CacheState) → state.entries ≡ [] → HoldsEach P state
HoldsEach-none P state none id = subst (λ (entries : List Entry). IfSome (stored_under entries id) (P id)) (sym none) tt

-- what is held under a number is of a message
pub HoldsEach-held : (P : ℕ → List ℕ → Type 0) (state : CacheState) (id : ℕ) (msg : List ℕ) → HoldsEach P state → ((stored : List ℕ) → P id stored → IsStoredOf msg stored) → IsHeldOf state id msg
HoldsEach-held P state id msg holds of_message = IfSome_then (stored_under state.entries id) (holds id) of_message

-- Fetches of messages, and then of others, are fetches of all of them.
pub Fetched-append : (asked more : List Asked) (old mid new : CacheState) → Fetched old asked mid → Fetched mid more new → Fetched old (asked ++ more) new
Fetched-append [] more old mid new same rest = subst (λ (state : CacheState). Fetched state more new) same rest
Fetched-append (one ∷ asked) more old mid new (after, rope, first, others) rest = (after, rope, first, Fetched-append asked more after mid new others rest)

-- there are as many blocks and places as there were
pub record KeepsLimits (old new : CacheState) : Type 0 where
  pub blocks : new.blocks ≡ old.blocks
  pub places : new.places ≡ old.places

by_becoming : (old new made : CacheState) → new ≡ made → KeepsLimits old made → KeepsLimits old new
by_becoming old new made is keeps = subst (KeepsLimits old) (sym is) keeps

pub KeepsLimits-trans : (old mid new : CacheState) → KeepsLimits old mid → KeepsLimits mid new → KeepsLimits old new
KeepsLimits-trans old mid new first rest = record { blocks = rest.blocks ∙ first.blocks; places = rest.places ∙ first.places }

pub Fetches-limits : (msg : List ℕ) (old new : CacheState) (id : ℕ) (rope : RopeValue) → Fetches msg old new id rope → KeepsLimits old new
Fetches-limits msg old new id rope (inl (stored, found, form, becomes)) = by_becoming old new _ becomes (record { blocks = refl; places = refl })
Fetches-limits msg old new id rope (inr builds) = by_becoming old new _ builds.becomes (record { blocks = refl; places = refl })

pub Fetched-limits : (asked : List Asked) (old new : CacheState) → Fetched old asked new → KeepsLimits old new
Fetched-limits [] old new same = by_becoming old new _ same (record { blocks = refl; places = refl })
Fetched-limits (one ∷ asked) old new (mid, rope, first, rest) =
    KeepsLimits-trans old mid new (Fetches-limits one.octets old mid one.id rope first) (Fetched-limits asked mid new rest)

pub LosesFetch-limits : (msg : List ℕ) (old new : CacheState) (id : ℕ) → LosesFetch msg old new id → KeepsLimits old new
LosesFetch-limits msg old new id (inl (stored, found, becomes)) = by_becoming old new _ becomes (record { blocks = refl; places = refl })
LosesFetch-limits msg old new id (inr loses) =
    elim loses.stays [
      | inl same ↦ by_becoming old new _ same (record { blocks = refl; places = refl })
      | inr gone ↦ by_becoming old new _ gone.2 (record { blocks = refl; places = refl })
    ]

pub LosesShown-limits : (mode : Mode) (msg : List ℕ) (old new : CacheState) (id : ℕ) → LosesShown mode msg old new id → KeepsLimits old new
LosesShown-limits legacy msg old new id loses = LosesFetch-limits msg old new id loses
LosesShown-limits enabled msg old new id same = by_becoming old new _ same (record { blocks = refl; places = refl })

-- ---- what fetches leave

-- a count after one more, and after more
counted_more : (old mid new more top : ℕ) → mid ≡ min (old + 1) top → new ≡ min (mid + more) top → new ≡ min (old + suc more) top
counted_more old mid new more top first rest = omega arith

counts_none : (counts : Counts) → AreCounts counts → HasCounted 0 counts counts
counts_none counts few = record { built = 0; hits = 0; all = refl; built_is = omega (arith, few.0); hits_is = omega (arith, few.1) }

-- One fetch that is counted, and then others.
counts_hit : (fetches : ℕ) (old mid new : Counts) → mid ≡ record { built = old.built; hits = one_more old.hits } → HasCounted fetches mid new → HasCounted (suc fetches) old new
counts_hit fetches old mid new is counted =
    record {
      built = counted.built;
      hits = suc counted.hits;
      all = let sum = counted.all in omega arith;
      built_is = counted.built_is ∙ ap (λ (counts : Counts). min (counts.built + counted.built) (2 ^ 64 - 1)) is;
      hits_is = counted_more old.hits mid.hits new.hits counted.hits (2 ^ 64 - 1) (ap (λ (counts : Counts). counts.hits) is) counted.hits_is;
    }

counts_build : (fetches : ℕ) (old mid new : Counts) → mid ≡ record { built = one_more old.built; hits = old.hits } → HasCounted fetches mid new → HasCounted (suc fetches) old new
counts_build fetches old mid new is counted =
    record {
      built = suc counted.built;
      hits = counted.hits;
      all = let sum = counted.all in omega arith;
      built_is = counted_more old.built mid.built new.built counted.built (2 ^ 64 - 1) (ap (λ (counts : Counts). counts.built) is) counted.built_is;
      hits_is = counted.hits_is ∙ ap (λ (counts : Counts). min (counts.hits + counted.hits) (2 ^ 64 - 1)) is;
    }

few_hit : (old new : Counts) → AreCounts old → new ≡ record { built = old.built; hits = one_more old.hits } → AreCounts new
few_hit old new few is = subst AreCounts (sym is) (few.0, omega arith)

few_build : (old new : Counts) → AreCounts old → new ≡ record { built = one_more old.built; hits = old.hits } → AreCounts new
few_build old new few is = subst AreCounts (sym is) (omega arith, few.1)

pub fetches_counted : (old new : CacheState) (asked : List Asked) → AreCounts old.counts → Fetched old asked new → HasCounted (length asked) old.counts new.counts
fetches_counted old new [] few same = subst (λ (state : CacheState). HasCounted 0 old.counts state.counts) (sym same) (counts_none old.counts few)
fetches_counted old new (one ∷ asked) few (mid, rope, inl (stored, found, form, becomes), rest) =
    let is = ap (λ (state : CacheState). state.counts) becomes in
    counts_hit (length asked) old.counts mid.counts new.counts is (fetches_counted mid new asked (few_hit old.counts mid.counts few is) rest)
fetches_counted old new (one ∷ asked) few (mid, rope, inr builds, rest) =
    let is = ap (λ (state : CacheState). state.counts) builds.becomes in
    counts_build (length asked) old.counts mid.counts new.counts is (fetches_counted mid new asked (few_build old.counts mid.counts few is) rest)

each_asked : (old : CacheState) (all asked : List Asked) → ((one : Asked) → Contains asked one → Contains all one) → AllByRecursion (HoldsOfRopes (WasHeldOrAsked old all)) asked
each_asked old all [] within = tt
each_asked old all (one ∷ asked) within = (
  λ stored of_message. inr (one, within one (zero, omega arith, refl), refl, of_message),
  each_asked old all asked (λ other (k, below, is). within other (suc k, omega arith, is)),
)

held_before : (o : Option (List ℕ)) → IfSome o (λ stored. o ≡ Some stored)
held_before None = tt
held_before (Some stored) = refl

pub held_or_asked : (old new : CacheState) (asked : List Asked) → Fetched old asked new → HoldsEach (WasHeldOrAsked old asked) new
held_or_asked old new asked fetched =
    fetched_holds (WasHeldOrAsked old asked) asked old new (each_asked old asked asked (λ one within. within))
    (λ id. IfSome_then (stored_under old.entries id) (held_before (stored_under old.entries id)) (λ stored is. inl is)) fetched
