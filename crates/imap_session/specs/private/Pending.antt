-- Acts that are done a part later: what is to be given is put together first, and given by few calls. It may wait while the cache is asked, and not while
-- the store changes.
use Rattle.std.specs.Prelude.{◌≡◌, ℕ, List, [], ◌++◌, Option, None, Some}
use Rattle.mail_wire.specs.Moves.{Gives}
use Rattle.mail_wire.specs.declared.outside.Fault.{Fault}
use Rattle.mail_store.specs.Following.{records_of, Follows}
use Rattle.session_core.specs.Acts.{Act, asked_in, changes_in}
use Rattle.session_core.specs.Around.{Around}
use Rattle.session_core.specs.Doing.{DoesFirst}
use Rattle.session_core.specs.Done.{given_by}
use Rattle.surrogate_cache.specs.Caching.{Fetched}

-- These acts were done, but for what is given after the last change: of that the last octets are still to be given.
pub record Owes {P : Type 0} (spelled : P → List ℕ) (before now : Around) (acts : List (Act P)) (pending : List ℕ) : Type 0 where
  pub done : List (Act P)
  pub late : List (Act P)
  pub acts_are : acts ≡ done ++ late
  pub unchanged : changes_in late ≡ []
  pub pending_is : pending ≡ given_by spelled late
  pub gives : Gives before.wire now.wire (given_by spelled done)
  pub follows : Follows before.desk.store now.desk.store before.keeper.octets now.keeper.octets (records_of (changes_in done))
  pub fetched : Fetched before.desk.cache (asked_in acts) now.desk.cache

-- After whatever acts, these too are done or still to be given; or after a fault the first of all were done.
abbrev pub Carries : {P : Type 0} → (P → List ℕ) → (old new : Around) → Option Fault → (owed owes : List ℕ) → List (Act P) → Type 0
Carries {P} spelled old new None owed owes acts =
    (before : Around) (first : List (Act P)) → Owes spelled before old first owed → Owes spelled before new (first ++ acts) owes
Carries {P} spelled old new (Some met) owed owes acts =
    (before : Around) (first : List (Act P)) → Owes spelled before old first owed → DoesFirst spelled before new met (first ++ acts)
