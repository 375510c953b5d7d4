-- What the command does that takes the password of an account from the input, by its status.
use Rattle.std.specs.Prelude.{◌≡◌, ◌≢◌, ◌⊎◌, ℕ, ◌+◌, ◌<◌, ◌≤◌, List, [], ◌∷◌, ◌++◌, length, true, Option, IfSome}
use Rattle.std.specs.Io.KnownBytes.{IsAtEnd}
use Rattle.encoded_words.specs.private.Parts.{lacks}
use Rattle.journal_records.specs.declared.limits.TheConstants.{TEXT_MAX}
use Rattle.journal_records.specs.declared.records.Record.{Record}
use Rattle.kept_mail.specs.Kept.{Kept}
use Rattle.mail_store.specs.declared.changing.StoreFault.{StoreFault}
use Rattle.mail_wire.specs.Characters.{carriage_return, line_feed}
use Rattle.mail_wire.specs.WireState.{WireState}
use Rattle.mail_wire.specs.declared.traffic.TheConstants.{PIECE}
use Rattle.setup_command.specs.AddingRuns.{IsExactAdding, RunsAdding}
use Rattle.setup_command.specs.Running.{IsBrokenOff, IsExactJournal}
use Rattle.setup_command.specs.declared.statuses.TheConstants.{WORDS_REFUSED}
use Rattle.mail_command.specs.Running.{RefusesWords}
use Rattle.mail_command.specs.Taking.{Takes, TakesSome}

-- The first line of octets, without its end: LF, CRLF, or the end of the octets.
pub data IsFirstLine (octets line : List ℕ) : Type 0 where
  OfLf : (rest : List ℕ) → octets ≡ line ++ line_feed ∷ rest → lacks line_feed line ≡ true → ((front : List ℕ) → line ≢ front ++ carriage_return ∷ []) → IsFirstLine octets line
  OfCrlf : (rest : List ℕ) → octets ≡ line ++ carriage_return ∷ line_feed ∷ rest → lacks line_feed line ≡ true → IsFirstLine octets line
  OfEnd : octets ≡ line → lacks line_feed line ≡ true → IsFirstLine octets line

-- A password isn't empty, and isn't longer than a text may be.
pub record IsPassword (line : List ℕ) : Type 0 where
  pub some : line ≢ []
  pub short : length line ≤ TEXT_MAX

-- Over some calls these octets were taken, no more than a piece beyond max, and nothing was given. If no line ends in them and they are
-- no more than max, they are all that was left.
pub record TakesUpToLine (max : ℕ) (before now : WireState) (octets : List ℕ) : Type 0 where
  pub takes : Takes before now octets
  pub few : length octets ≤ max + PIECE
  pub end : lacks line_feed octets ≡ true → length octets ≤ max → IsAtEnd now.left

-- the most octets that a password has, and a CR
abbrev pub line_max : ℕ
line_max = TEXT_MAX + 1

-- Octets were taken, and nothing was given. This is their first line, and where the wire tells what it had left, that of all of it.
pub record TakesFirstLine (before now : WireState) (line : List ℕ) : Type 0 where
  pub octets : List ℕ
  pub takes : Takes before now octets
  pub few : length octets ≤ line_max + PIECE
  pub first : IsFirstLine octets line
  pub whole : IfSome before.left (λ all. IsFirstLine all line)

-- More octets were taken than that, no line ends in them, and nothing was given.
pub record TakesLongLine (before now : WireState) : Type 0 where
  pub octets : List ℕ
  pub takes : Takes before now octets
  pub few : length octets ≤ line_max + PIECE
  pub endless : lacks line_feed octets ≡ true
  pub long : line_max < length octets

-- The record that a password makes is added once its line was taken. `refusal` tells whether a store refuses it.
pub data RunsByInput (refusal : Kept → Option StoreFault) (one : List ℕ → Record) (old new : Option (List ℕ)) (before now : WireState) (status : ℕ) : Type 0 where
  -- the first line is a password
  OfPassword : (between : WireState) (password : List ℕ) → TakesFirstLine before between password → IsPassword password → RunsAdding refusal (one password) old new between now status
      → RunsByInput refusal one old new before now status
  -- it is none, and is refused as words are
  OfNone : (between : WireState) (line : List ℕ) → TakesFirstLine before between line → ¬ IsPassword line → RefusesWords between now status → new ≡ old
      → RunsByInput refusal one old new before now status
  -- nor is what was taken of it
  OfLong : (between : WireState) → TakesLongLine before between → RefusesWords between now status → new ≡ old → RunsByInput refusal one old new before now status
  -- it was broken off before it had the line
  Untaken : TakesSome line_max before now → IsBrokenOff status → new ≡ old → RunsByInput refusal one old new before now status

-- No password, or the answer is exact.
abbrev pub IsExactByInput : (Kept → Option StoreFault) → List ℕ → ℕ → Type 0
IsExactByInput refusal octets status = (status ≡ WORDS_REFUSED) ⊎ (IsExactAdding refusal octets status × IsExactJournal octets status)
