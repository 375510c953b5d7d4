-- What octets of a stream begin with, where it is read by lines (RFC 1939, 3; RFC 5321, 2.3.8). The length of a line is a
-- limit of this server.
use Rattle.std.specs.Prelude.{◌<◌, ◌≤◌, ◌++◌, take, ℕ, List, length, drop, nat_le, Option, None, Some, if◌then◌else◌}
use Rattle.mail_wire.specs.Lines.{Cut, first_line}
use Rattle.mail_wire.specs.declared.framing.TheConstants.{LINE_MAX}
use Rattle.mail_wire.specs.declared.framing.FoundLine.{FoundLine}
use Rattle.mail_wire.specs.declared.framing.FoundLine.TheVariants as found

-- What the octets of a stream begin with.
pub data Framed : Type 0 where
  -- no whole line yet
  waiting : Framed
  -- a line with its CRLF, and what follows it
  whole : (line rest : List ℕ) → Framed
  -- more octets than a line may have, and what follows these
  too_long : (rest : List ℕ) → Framed

-- a line, unless it is longer than a line may be
abbrev pub line_or_too_long : Cut → List ℕ → Framed
line_or_too_long cut octets = if nat_le (length cut.line) LINE_MAX then whole cut.line cut.rest else too_long (drop LINE_MAX octets)

-- no CRLF, unless more octets are there than a line may have
abbrev pub waiting_or_too_long : List ℕ → Framed
waiting_or_too_long octets = if nat_le (length octets) LINE_MAX then waiting else too_long (drop LINE_MAX octets)

-- What octets begin with that have their first CRLF at this cut, or none.
abbrev pub framed_at : Option Cut → List ℕ → Framed
framed_at None octets = waiting_or_too_long octets
framed_at (Some cut) octets = line_or_too_long cut octets

-- A line goes up to the first CRLF. It is too long as soon as an octet is there that it has no room for.
abbrev pub next_line : List ℕ → Framed
next_line octets = framed_at (first_line octets) octets

-- what the octets that were kept and a piece begin with
abbrev pub framed_as : FoundLine → (kept piece : List ℕ) → Framed
framed_as found.Waiting kept piece = waiting
framed_as (found.Whole n) kept piece = whole (kept ++ take n piece) (drop n piece)
framed_as found.TooLong kept piece = too_long (drop LINE_MAX (kept ++ piece))

-- where a line ends in the piece
abbrev pub ends_in : FoundLine → List ℕ → Type 0
ends_in found.Waiting piece = Unit {0}
ends_in (found.Whole n) piece = (0 < n) × (n ≤ length piece)
ends_in found.TooLong piece = Unit {0}
