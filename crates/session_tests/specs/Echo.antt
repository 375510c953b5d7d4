-- The toy: its states, and the row of each line and of each literal.
use Rattle.std.specs.Prelude.{◌≡◌, ℕ, ◌+◌, ◌-◌, List, [], ◌∷◌, ◌++◌, Bool, true, false, ◌&&◌, ◌==◌, nat_le, slice_index, codes, length, if◌then◌else◌, Option, Some, None}
use Rattle.std.specs.Str.{bytes_eq}
use Rattle.mail_wire.specs.Characters.{left_brace, right_brace}
use Rattle.mail_wire.specs.Lines.{crlf}
use Rattle.session_core.specs.Moments.{Moment}
use Rattle.session_core.specs.Acts.{gives}
use Rattle.session_core.specs.Grammar.{Grammar, Row}
use Rattle.session_core.specs.declared.desk.Desk.{Desk}
use Rattle.session_core.specs.declared.rows.Wants.{Wants}
use Rattle.session_core.specs.declared.rows.Wants.TheVariants as wants
use Rattle.session_tests.specs.declared.echo.Echo.{Echo}
use Rattle.session_tests.specs.declared.echo.Echo.TheVariants as echo

-- The states of the toy.
pub data State : Type 0 where
  -- a command of which this was said so far
  saying : (said : List ℕ) → State
  -- the same, and a literal of so many octets comes next
  literal : (said : List ℕ) (n : ℕ) → State
  ended : State

-- A literal is announced at this place: a digit from 1 to 9 in braces.
abbrev pub announces : List ℕ → ℕ → Bool
announces line at = slice_index line at == left_brace
    && nat_le 49 (slice_index line (at + 1)) && nat_le (slice_index line (at + 1)) 57 && slice_index line (at + 2) == right_brace

-- the length of the literal that a line announces by `{n}` before its CRLF
unfoldable pub literal_of : List ℕ → Option ℕ
literal_of line = if nat_le 5 (length line) && announces line (length line - 5) then Some (slice_index line (length line - 5 + 1) - 48) else None

-- The line that ends a session.
abbrev pub quit : List ℕ
quit = codes "QUIT" ++ crlf

-- one reply
abbrev pub replies : List ℕ → State → Row State (List ℕ)
replies octets after = record { acts = gives octets ∷ []; after = after }

-- a whole command
abbrev pub command_row : Bool → List ℕ → Row State (List ℕ)
command_row true command = replies (codes "bye" ++ crlf) ended
command_row false command = replies command (saying [])

-- a command that is answered in its middle, or is whole
abbrev pub line_row : Option ℕ → List ℕ → Row State (List ℕ)
line_row (Some n) command = replies (codes "+ go" ++ crlf) (literal command n)
line_row None command = command_row (bytes_eq command quit) command

-- What a line or a literal brings.
abbrev pub row_of : State → List ℕ → Row State (List ℕ)
row_of (saying said) line = line_row (literal_of line) (said ++ line)
row_of (literal said n) octets = replies octets (saying (said ++ octets))
row_of ended octets = record { acts = []; after = ended }

-- What a state reads next.
abbrev pub wants_of : State → Option Wants
wants_of (saying said) = Some wants.Line
wants_of (literal said n) = Some (wants.Count n)
wants_of ended = None

-- What a line is answered that is too long.
abbrev pub too_long : List ℕ
too_long = codes "too long" ++ crlf

-- The toy as a protocol of rows.
abbrev pub echo_grammar : Grammar
echo_grammar = record {
  S = State;
  P = List ℕ;
  opening = λ store. [];
  start = λ moments store. saying [];
  wants = wants_of;
  row = λ oracles state unit. row_of state unit;
  long_row = λ oracles state. replies too_long ended;
  spelled = λ oracles part. part;
  Fits = λ oracles part. Unit {0};
  IsSound = λ state. Unit {0};
}

-- ---- what values stand for

-- The state that a session stands for.
abbrev pub state_of : Echo → State
state_of (echo.Saying said) = saying said
state_of (echo.Literal said n) = literal said n

-- A session stands for its state.
abbrev pub EchoStands : List Moment → Echo → Desk → State → Type 0
EchoStands more session desk state = state ≡ state_of session

-- What a session reads next.
abbrev pub wanted_by : Echo → Wants
wanted_by (echo.Saying said) = wants.Line
wanted_by (echo.Literal said n) = wants.Count n
