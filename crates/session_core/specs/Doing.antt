-- What a call does to the outside: it gives octets, makes a change, asks the cache, or does acts.
use Rattle.std.specs.Prelude.{◌≡◌, ℕ, List, [], ◌∷◌, Option, None, Some, Result, Ok, Err}
use Rattle.mail_wire.specs.Moves.{Gives, GivesOrFails}
use Rattle.mail_wire.specs.declared.outside.Fault.{Fault}
use Rattle.mail_wire.specs.declared.outside.Fault.TheVariants as fault
use Rattle.session_core.specs.Acts.{Act, asked_in, changes_in}
use Rattle.session_core.specs.Done.{given_by, IsDone}
use Rattle.mail_store.specs.Following.{records_of, Follows, Breaks}
use Rattle.mail_store.specs.StoreState.{StoreState}
use Rattle.journal_records.specs.declared.records.Record.{Record}
use Rattle.surrogate_cache.specs.Caching.{Asked, Fetched}
use Rattle.session_core.specs.Around.{Around, LeavesDesk}
use Rattle.session_core.specs.Keeps.{answer_of}

-- These octets were given, or where that was broken off a prefix of them.
pub record Replies (before now : Around) (met : Option Fault) (octets : List ℕ) : Type 0 where
  pub gives : GivesOrFails before.wire now.wire (answer_of met) octets
  pub leaves : LeavesDesk before now
  pub fine : ¬ (met ≡ Some fault.Keeper)

-- The changes were made; or the keeper failed in the one that was due; or, for want of memory, nothing was changed.
abbrev pub IsChanged : (old new : StoreState) (had has : Option (List ℕ)) → Option Fault → List (List Record) → Type 0
IsChanged old new had has None made = Follows old new had has (records_of made)
IsChanged old new had has (Some fault.Keeper) made = (failing : List Record) × (made ≡ failing ∷ []) × Breaks old new had has [] failing
IsChanged old new had has (Some fault.Memory) made = (new ≡ old) × (has ≡ had)
IsChanged old new had has (Some fault.Wire) made = (new ≡ old) × (has ≡ had)

-- These changes were made, of which there is one at most, or the one broke off.
pub record Makes (before now : Around) (met : Option Fault) (made : List (List Record)) : Type 0 where
  pub wire : now.wire ≡ before.wire
  pub cache : now.desk.cache ≡ before.desk.cache
  pub changes : IsChanged before.desk.store now.desk.store before.keeper.octets now.keeper.octets met made

-- the fault of a call that was broken off for want of memory
abbrev pub wanting : {T E : Type 0} → Result T E → Option Fault
wanting (Ok x) = None
wanting (Err memory) = Some fault.Memory

-- These messages were fetched, or where that was broken off some of them, and nothing else was done.
pub record Asks (before now : Around) (met : Option Fault) (asked : List Asked) : Type 0 where
  pub wire : now.wire ≡ before.wire
  pub store : now.desk.store ≡ before.desk.store
  pub keeper : now.keeper ≡ before.keeper
  pub fetched : met ≡ None → Fetched before.desk.cache asked now.desk.cache

-- These messages were fetched, and these octets were given, or where that was broken off a prefix of them.
pub record AsksAndReplies (before now : Around) (met : Option Fault) (asked : List Asked) (octets : List ℕ) : Type 0 where
  pub gives : GivesOrFails before.wire now.wire (answer_of met) octets
  pub store : now.desk.store ≡ before.desk.store
  pub keeper : now.keeper ≡ before.keeper
  pub fetched : met ≡ None → Fetched before.desk.cache asked now.desk.cache
  pub fine : ¬ (met ≡ Some fault.Keeper)

-- all these acts were done
pub record DoesAll {P : Type 0} (spelled : P → List ℕ) (before now : Around) (acts : List (Act P)) : Type 0 where
  pub gives : Gives before.wire now.wire (given_by spelled acts)
  pub follows : Follows before.desk.store now.desk.store before.keeper.octets now.keeper.octets (records_of (changes_in acts))
  pub fetched : Fetched before.desk.cache (asked_in acts) now.desk.cache

-- the first of these acts were done
pub record DoesFirst {P : Type 0} (spelled : P → List ℕ) (before now : Around) (met : Fault) (acts : List (Act P)) : Type 0 where
  pub given : List ℕ
  pub gives : Gives before.wire now.wire given
  pub done : IsDone spelled before.desk.store now.desk.store before.keeper.octets now.keeper.octets (Some met) acts given

-- all these acts, or where the call was broken off the first of them, in their order
abbrev pub Does : {P : Type 0} → (P → List ℕ) → Around → Around → Option Fault → List (Act P) → Type 0
Does spelled before now None acts = DoesAll spelled before now acts
Does spelled before now (Some met) acts = DoesFirst spelled before now met acts
