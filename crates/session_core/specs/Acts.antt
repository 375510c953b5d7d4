-- What a session does: it gives parts of replies, changes its store, and asks its cache.
use Rattle.std.specs.Prelude.{ℕ, List, [], ◌∷◌, ◌++◌, map}
use Rattle.journal_records.specs.declared.records.Record.{Record}
use Rattle.surrogate_cache.specs.Caching.{Asked}

-- What a session does, one step at a time.
pub data Act (P : Type 0) : Type 0 where
  -- it gives this part of a reply
  gives : (part : P) → Act P
  -- these records are put last in the store and in the keeper, by one call
  changes : (records : List Record) → Act P
  -- it fetches this message from its cache
  asks : (asked : Asked) → Act P

-- A step makes these changes, and then gives this reply.
abbrev pub acts_of : {P : Type 0} → List (List Record) → List P → List (Act P)
acts_of made reply = map changes made ++ map gives reply

-- the changes among them
abbrev pub changes_in : {P : Type 0} → List (Act P) → List (List Record)
changes_in [] = []
changes_in (gives part ∷ acts) = changes_in acts
changes_in (changes records ∷ acts) = records ∷ changes_in acts
changes_in (asks asked ∷ acts) = changes_in acts

-- the messages among them that the cache is asked for
abbrev pub asked_in : {P : Type 0} → List (Act P) → List Asked
asked_in [] = []
asked_in (gives part ∷ acts) = asked_in acts
asked_in (changes records ∷ acts) = asked_in acts
asked_in (asks asked ∷ acts) = asked ∷ asked_in acts

-- A step asks its cache for these messages, and then does these acts.
abbrev pub asking : {P : Type 0} → List Asked → List (Act P) → List (Act P)
asking asked acts = map asks asked ++ acts

-- the octets of an act, where this tells those of a part; no other act has any
abbrev pub act_octets : {P : Type 0} → (P → List ℕ) → Act P → List ℕ
act_octets spelled (gives part) = spelled part
act_octets spelled (changes records) = []
act_octets spelled (asks asked) = []

-- what holds of an act, where this tells what holds of a part
abbrev pub IsFitAct : {P : Type 0} → (P → Type 0) → Act P → Type 0
IsFitAct Fits (gives part) = Fits part
IsFitAct Fits (changes records) = Unit {0}
IsFitAct Fits (asks asked) = Unit {0}
