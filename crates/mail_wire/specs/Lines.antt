-- The lines of octets (RFC 5322, 2.1). A line ends with CRLF; the last one may lack it.
use Rattle.std.specs.Prelude.{ℕ, ◌+◌, List, [], ◌∷◌, Bool, ◌&&◌, ◌==◌, if◌then◌else◌, length, Option, Some, None}
use Rattle.std.specs.Option.{option_map}
use Rattle.mail_wire.specs.Characters.{line_feed, carriage_return}
use Rattle.mail_wire.specs.declared.values.Span.{Span}

-- CR and LF
abbrev pub crlf : List ℕ
crlf = carriage_return ∷ line_feed ∷ []

-- The two octets are CR and LF (RFC 5322, 2.1).
abbrev pub is_crlf : ℕ → ℕ → Bool
is_crlf x y = x == carriage_return && y == line_feed

-- an octet before the first of these lines
abbrev pub put_before : ℕ → List (List ℕ) → List (List ℕ)
put_before x [] = (x ∷ []) ∷ []
put_before x (line ∷ lines) = (x ∷ line) ∷ lines

-- the lines, each with its CRLF
unfoldable pub lines_of : List ℕ → List (List ℕ)
lines_of [] = []
lines_of (x ∷ []) = (x ∷ []) ∷ []
lines_of (x ∷ y ∷ rest) = if is_crlf x y then crlf ∷ lines_of rest else put_before x (lines_of (y ∷ rest))

-- where the lines stand, the first one at this place
abbrev pub spans_from : ℕ → List (List ℕ) → List Span
spans_from at [] = []
spans_from at (line ∷ lines) = record { at = at; len = length line } ∷ spans_from (at + length line) lines

-- a first line, with its CRLF, and what follows it
pub record Cut : Type 0 where
  pub line : List ℕ
  pub rest : List ℕ

-- an octet before a cut line
abbrev pub begun_with : ℕ → Cut → Cut
begun_with x cut = record { line = x ∷ cut.line; rest = cut.rest }

-- the octets up to the first CRLF, where one is there
unfoldable pub first_line : List ℕ → Option Cut
first_line [] = None
first_line (x ∷ []) = None
first_line (x ∷ y ∷ rest) = if is_crlf x y then Some (record { line = crlf; rest = rest }) else option_map (begun_with x) (first_line (y ∷ rest))
