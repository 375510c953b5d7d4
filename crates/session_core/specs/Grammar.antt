-- A protocol of lines and blocks of octets, by its rows.
use Rattle.std.specs.Prelude.{◌≡◌, ◌++◌, ℕ, zero, suc, ◌≤◌, List, length, take, drop, nat_le, if◌then◌else◌, Option, Some, None, Result, IfOk}
use Rattle.std.specs.List.{All, AllByRecursion}
use Rattle.mail_wire.specs.Framing.{Framed, waiting, whole, too_long, next_line}
use Rattle.session_core.specs.Turns.{Turn}
use Rattle.mail_wire.specs.declared.outside.Fault.{Fault}
use Rattle.session_core.specs.Acts.{Act, IsFitAct}
use Rattle.mail_store.specs.StoreState.{StoreState}
use Rattle.session_core.specs.Around.{Around}
use Rattle.session_core.specs.Doing.{Does}
use Rattle.session_core.specs.Keeps.{fault_of}
use Rattle.session_core.specs.Oracles.{AreOracles, Oracles, WithOracles}
use Rattle.session_core.specs.Moments.{Moment, IsTold}
use Rattle.session_core.specs.Protocol.{Protocol}
use Rattle.session_core.specs.declared.desk.Desk.{Desk}
use Rattle.session_core.specs.declared.rows.Wants.{Wants}
use Rattle.session_core.specs.declared.rows.Wants.TheVariants as wants

-- the acts of a row, and the state after it
pub record Row (S P : Type 0) : Type 0 where
  pub acts : List (Act P)
  pub after : S

-- A protocol by its rows: its states, what it opens with, what each state reads, and what is done for it.
pub record Grammar : Type 1 where
  -- states, each with its store, and parts of replies
  pub S : Type 0
  pub P : Type 0
  -- what a session does first, and its state then, with the moments that are still to come
  pub opening : StoreState → List (Act P)
  pub start : List Moment → StoreState → S
  -- what a state reads next; one that has ended reads nothing
  pub wants : S → Option Wants
  -- the row of what was read, and that of a line that is too long
  pub row : Oracles → S → List ℕ → Row S P
  pub long_row : Oracles → S → Row S P
  -- the octets of a part, and what may be sent
  pub spelled : Oracles → P → List ℕ
  pub Fits : Oracles → P → Type 0
  -- whatever such a state is asked for, its replies may be sent
  pub IsSound : S → Type 0

-- The first octets of a stream, so many and one at least, and what follows them.
unfoldable pub count_cut : ℕ → List ℕ → Framed
count_cut zero octets = waiting
count_cut (suc n) octets = if nat_le (suc n) (length octets) then whole (take (suc n) octets) (drop (suc n) octets) else waiting

-- what a stream begins with, where this is read
abbrev pub cut_by : Wants → List ℕ → Framed
cut_by wants.Line octets = next_line octets
cut_by (wants.Count n) octets = count_cut n octets

-- the turn of what a stream begins with
abbrev pub turn_by : (grammar : Grammar) → Oracles → grammar.S → Framed → Option (Turn grammar.S (Act grammar.P))
turn_by grammar oracles state waiting = None
turn_by grammar oracles state (whole unit rest) =
    Some (record { parts = (grammar.row oracles state unit).acts; after = (grammar.row oracles state unit).after; rest = rest })
turn_by grammar oracles state (too_long rest) =
    Some (record { parts = (grammar.long_row oracles state).acts; after = (grammar.long_row oracles state).after; rest = rest })

-- after the end nothing is read
abbrev pub turn_in : (grammar : Grammar) → Oracles → grammar.S → Option Wants → List ℕ → Option (Turn grammar.S (Act grammar.P))
turn_in grammar oracles state None octets = None
turn_in grammar oracles state (Some want) octets = turn_by grammar oracles state (cut_by want octets)

-- The protocol that these rows are.
abbrev pub protocol_of : Grammar → Protocol
protocol_of grammar = record {
  S = grammar.S;
  P = grammar.P;
  opening = grammar.opening;
  start = grammar.start;
  next = λ oracles state octets. turn_in grammar oracles state (grammar.wants state) octets;
  spelled = grammar.spelled;
  Fits = grammar.Fits;
  HasEnded = λ state. grammar.wants state ≡ None;
  IsSound = grammar.IsSound;
}

-- a whole line has its CRLF, and a block as many octets as were wanted
abbrev pub IsUnit : Wants → List ℕ → Type 0
IsUnit wants.Line unit = 2 ≤ length unit
IsUnit (wants.Count n) unit = length unit ≡ n

-- the states that rows stand for, with these moments to come
abbrev pub StandingRows : Grammar → Type 0 → Type 1
StandingRows grammar R = List Moment → R → Desk → grammar.S → Type 0

-- what the rows after an answer stand for; none stands for an end
abbrev pub StandsNext : (grammar : Grammar) {R : Type 0} → StandingRows grammar R → List Moment → Option R → Desk → grammar.S → Type 0
StandsNext grammar stands more None desk state = grammar.wants state ≡ None
StandsNext grammar stands more (Some rows) desk state = stands more rows desk state

-- The opening was done, or the first of it; and the rows stand for the start.
pub record BeginsRows (grammar : Grammar) {R : Type 0} (stands : StandingRows grammar R) (before now : Around) (result : Result R Fault) : Type 0 where
  pub does : WithOracles (λ oracles. Does (grammar.spelled oracles) before now (fault_of result) (grammar.opening before.desk.store))
  pub stands_for : IfOk result (λ rows. (moments : List Moment) → stands moments rows now.desk (grammar.start moments before.desk.store))

-- The row was done, or the first of it, and the rows stand for the state after it.
pub record AnswersBy (grammar : Grammar) {R : Type 0} (stands : StandingRows grammar R) (oracles : Oracles) (before now : Around) (result : Result (Option R) Fault) (more : List Moment) (row : Row grammar.S grammar.P) : Type 0 where
  pub does : Does (grammar.spelled oracles) before now (fault_of result) row.acts
  pub next : IfOk result (λ next. StandsNext grammar stands more next now.desk row.after)

-- The row of the unit was done, or after a fault the first of it, with moments that the clock told.
pub record Answers (grammar : Grammar) {R : Type 0} (stands : StandingRows grammar R) (before now : Around) (rows : R) (unit : List ℕ) (result : Result (Option R) Fault) : Type 0 where
  pub told : List Moment
  pub are_told : All (IsTold before.clock) told
  pub answers : WithOracles (λ oracles. (more : List Moment) (state : grammar.S) → stands (told ++ more) rows before.desk state
      → AnswersBy grammar stands oracles before now result more (grammar.row oracles state unit))

-- The row of a line that is too long was done, or after a fault the first of it.
abbrev pub Refuses : (grammar : Grammar) {R : Type 0} → StandingRows grammar R → Around → Around → R → Result (Unit {0}) Fault → Type 0
Refuses grammar stands before now rows result =
    WithOracles (λ oracles. (more : List Moment) (state : grammar.S) → stands more rows before.desk state
    → Does (grammar.spelled oracles) before now (fault_of result) (grammar.long_row oracles state).acts)

-- what a row gives may be sent, and its state is sound
pub record IsFitRow (grammar : Grammar) (oracles : Oracles) (row : Row grammar.S grammar.P) : Type 0 where
  pub fit : AllByRecursion (IsFitAct (grammar.Fits oracles)) row.acts
  pub sound : grammar.IsSound row.after

-- The row of each unit that a sound state reads gives only what may be sent, and leaves a sound state.
abbrev pub RowsFit : Grammar → Type 0
RowsFit grammar = (oracles : Oracles) → AreOracles oracles → (state : grammar.S) (unit : List ℕ) → grammar.IsSound state → IsFitRow grammar oracles (grammar.row oracles state unit)

-- So does the row of a line that is too long, in each sound state.
abbrev pub LongRowsFit : Grammar → Type 0
LongRowsFit grammar = (oracles : Oracles) → AreOracles oracles → (state : grammar.S) → grammar.IsSound state → IsFitRow grammar oracles (grammar.long_row oracles state)

-- what a session does first, as a row
abbrev pub opening_row : (grammar : Grammar) → List Moment → StoreState → Row grammar.S grammar.P
opening_row grammar moments store = record { acts = grammar.opening store; after = grammar.start moments store }
