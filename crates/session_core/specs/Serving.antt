-- What a session is sent of a stream, and what the call that serves it does to its wire, its store and its keeper.
use Rattle.std.specs.Prelude.{◌≡◌, ◌⊎◌, ℕ, ◌<◌, ◌≤◌, List, [], ◌∷◌, ◌++◌, length, Option, None, IfSome}
use Rattle.std.specs.Io.KnownBytes.{IsAtEnd}
use Rattle.std.specs.List.{All, AllByRecursion}
use Rattle.mail_wire.specs.Moves.{Moves}
use Rattle.mail_wire.specs.WireState.{WireState}
use Rattle.mail_wire.specs.Transcript.{IsLawful, taken_of, given_of}
use Rattle.session_core.specs.Turns.{Turn, all_turns}
use Rattle.mail_wire.specs.declared.outside.Entry.{Entry}
use Rattle.mail_wire.specs.declared.outside.Entry.TheVariants.{Taken, Given}
use Rattle.mail_wire.specs.declared.traffic.TheConstants.{PIECE}
use Rattle.session_core.specs.Acts.{Act, IsFitAct, asked_in, changes_in}
use Rattle.session_core.specs.Done.{given_by, IsDone}
use Rattle.mail_store.specs.Following.{records_of, Follows}
use Rattle.mail_store.specs.StoreState.{StoreState}
use Rattle.journal_records.specs.declared.records.Record.{Record}
use Rattle.surrogate_cache.specs.Caching.{Asked, Fetched}
use Rattle.session_core.specs.Around.{Around}
use Rattle.session_core.specs.Oracles.{Oracles, WithOracles}
use Rattle.session_core.specs.Moments.{Moment, IsTold}
use Rattle.session_core.specs.Protocol.{Protocol}
use Rattle.session_core.specs.Served.{met_of}
use Rattle.session_core.specs.declared.serving.Served.{Served}
use Rattle.session_core.specs.declared.serving.Served.TheVariants.{Ended, Limit}

-- ---- a protocol with all that it takes as given

-- A machine over a store: what it does first, its turns, what its parts are in octets, and what holds of each that is given.
pub record Instance : Type 1 where
  pub S : Type 0
  pub P : Type 0
  pub opening : StoreState → List (Act P)
  pub start : StoreState → S
  pub next : S → List ℕ → Option (Turn S (Act P))
  pub HasEnded : S → Type 0
  pub spelled : P → List ℕ
  pub Fits : P → Type 0

-- with what is meant, and the moments that a clock told
abbrev pub instance_of : Protocol → Oracles → List Moment → Instance
instance_of protocol oracles moments = record {
  S = protocol.S;
  P = protocol.P;
  opening = protocol.opening;
  start = protocol.start moments;
  next = protocol.next oracles;
  HasEnded = protocol.HasEnded;
  spelled = protocol.spelled oracles;
  Fits = protocol.Fits oracles;
}

-- What holds of a protocol, whatever functions give surrogates, read paths and tell trees, with moments that a clock told, which may
-- tell a fixed reading, and whatever moments are still to come.
pub record OfInstance (protocol : Protocol) (reading : Option ℕ) (P : Instance → Type 0) : Type 0 where
  pub told : List Moment
  pub are_told : All (IsTold reading) told
  pub holds : WithOracles (λ oracles. (more : List Moment) → P (instance_of protocol oracles (told ++ more)))

-- ---- what the machine makes of a stream

-- the turns of its whole commands, up to the end
abbrev pub turns_for : (instance : Instance) → StoreState → List ℕ → Turn instance.S (Act instance.P)
turns_for instance store octets = all_turns instance.next (instance.start store) octets

-- what it does: it begins, and carries out these commands
abbrev pub acts_for : (instance : Instance) → StoreState → List ℕ → List (Act instance.P)
acts_for instance store octets = instance.opening store ++ (turns_for instance store octets).parts

-- the octets that it gives
abbrev pub replies_to : Instance → StoreState → List ℕ → List ℕ
replies_to instance store octets = given_by instance.spelled (acts_for instance store octets)

-- the changes that it makes
abbrev pub changes_by : Instance → StoreState → List ℕ → List (List Record)
changes_by instance store octets = changes_in (acts_for instance store octets)

-- the messages that it asks its cache for
abbrev pub asked_for : Instance → StoreState → List ℕ → List Asked
asked_for instance store octets = asked_in (acts_for instance store octets)

-- the commands end the session
abbrev pub EndsBy : Instance → StoreState → List ℕ → Type 0
EndsBy instance store octets = instance.HasEnded (turns_for instance store octets).after

-- ---- the promise

-- What a session is sent of a stream of client octets: the replies of its protocol's machine, over one surrogate per message. Each part
-- of a reply may be sent: no octet of a reply line is above 127, sizes and offsets are those of what is served, and what a session that
-- has not enabled UTF-8 is shown is a range of the surrogate, all of whose headers are ASCII. Its commands' changes, and no others, are
-- made in the store and in the keeper.
pub record IsSent (instance : Instance) (store after : StoreState) (had has : Option (List ℕ)) (octets given : List ℕ) : Type 0 where
  pub replies : given ≡ replies_to instance store octets
  pub fit : AllByRecursion (IsFitAct instance.Fits) (acts_for instance store octets)
  pub changes : Follows store after had has (records_of (changes_by instance store octets))

-- ---- what the call does

-- The octets begin with these.
abbrev pub IsPrefixOf : List ℕ → List ℕ → Type 0
IsPrefixOf front whole = (rest : List ℕ) × (whole ≡ front ++ rest)

-- The relation holds of each take of a transcript: of what was taken before it, these octets first, and of what it takes.
abbrev pub EachTake : (List ℕ → List ℕ → Type 0) → List ℕ → List Entry → Type 0
EachTake May taken [] = Unit {0}
EachTake May taken (Taken octets ∷ entries) = May taken octets × EachTake May (taken ++ octets) entries
EachTake May taken (Given octets ∷ entries) = EachTake May taken entries

-- What was taken has not ended the session, and no more than a piece is taken.
pub record MayTake (instance : Instance) (store : StoreState) (taken octets : List ℕ) : Type 0 where
  pub goes_on : ¬ EndsBy instance store taken
  pub piece : length octets ≤ PIECE

-- Before each take all that was taken was answered and had not ended the session, and no take was of more than a piece. Nothing was
-- given but a prefix of the replies to what was left. No more was taken than a session may take. What was taken brings acts: all
-- of them were done, or, by the answer, the first of them, in their order.
pub record ServesLawfully (instance : Instance) (store after : StoreState) (had has : Option (List ℕ)) (served : Served) (max : ℕ) (before now : WireState) : Type 0 where
  pub entries : List Entry
  pub moves : Moves before now entries
  pub lawful : IsLawful (replies_to instance store) entries
  pub takes : EachTake (MayTake instance store) [] entries
  pub few : length (taken_of entries) ≤ max
  pub begun : IfSome before.left (λ octets. IsPrefixOf (given_of entries) (replies_to instance store octets))
  pub done : IsDone instance.spelled store after had has (met_of served) (acts_for instance store (taken_of entries)) (given_of entries)

-- The session was sent what is due for all that was left, and has ended, or nothing is left.
pub record ServesAll (instance : Instance) (store after : StoreState) (had has : Option (List ℕ)) (max : ℕ) (before now : WireState) : Type 0 where
  pub entries : List Entry
  pub moves : Moves before now entries
  pub lawful : IsLawful (replies_to instance store) entries
  pub takes : EachTake (MayTake instance store) [] entries
  pub few : length (taken_of entries) ≤ max
  pub sent : IsSent instance store after had has (taken_of entries) (given_of entries)
  pub whole : IfSome before.left (λ octets. IsSent instance store after had has octets (given_of entries))
  pub end : EndsBy instance store (taken_of entries) ⊎ (IsAtEnd now.left × (length (taken_of entries) < max))

-- As many octets were taken as a session may take. It was sent what is due for these, and has not ended.
pub record ServesUpTo (instance : Instance) (store after : StoreState) (had has : Option (List ℕ)) (max : ℕ) (before now : WireState) : Type 0 where
  pub entries : List Entry
  pub moves : Moves before now entries
  pub lawful : IsLawful (replies_to instance store) entries
  pub takes : EachTake (MayTake instance store) [] entries
  pub sent : IsSent instance store after had has (taken_of entries) (given_of entries)
  pub full : length (taken_of entries) ≡ max
  pub goes_on : ¬ EndsBy instance store (taken_of entries)

-- What a call that serves a session does, by its answer.
pub record Serves (instance : Instance) (store after : StoreState) (had has : Option (List ℕ)) (served : Served) (max : ℕ) (before now : WireState) : Type 0 where
  pub lawful : ServesLawfully instance store after had has served max before now
  pub ended : served ≡ Ended → ServesAll instance store after had has max before now
  pub limit : served ≡ Limit → ServesUpTo instance store after had has max before now

-- A session was served from a desk. Unless a fault broke it off, its cache is what the fetches of the messages that were asked for lead to,
-- in order and no others: by what was taken, and at Ended by all that was left.
pub record ServesFrom (instance : Instance) (before now : Around) (served : Served) : Type 0 where
  pub serves : Serves instance before.desk.store now.desk.store before.keeper.octets now.keeper.octets served before.desk.limits.session_max before.wire now.wire
  pub taken : met_of served ≡ None → Fetched before.desk.cache (asked_for instance before.desk.store (taken_of serves.lawful.entries)) now.desk.cache
  pub whole : served ≡ Ended → IfSome before.wire.left (λ octets. Fetched before.desk.cache (asked_for instance before.desk.store octets) now.desk.cache)

-- What a call that serves a protocol does, whatever functions give its meanings.
abbrev pub ServesBy : Protocol → Around → Around → Served → Type 0
ServesBy protocol before now served = OfInstance protocol before.clock (λ instance. ServesFrom instance before now served)
