-- What is seen of an entity's lines under open boundaries: the steps of the reader.
use Rattle.std.specs.Prelude.{◌≡◌, ℕ, ◌+◌, ◌-◌, ◌<◌, ◌≤◌, ◌==◌, ◌⊎◌, List, [], ◌∷◌, ◌++◌, Bool, true, false, ◌||◌, if◌then◌else◌, length, drop, Option, Some, None}
use Rattle.std.specs.List.{list_any}
use Rattle.std.specs.Str.{bytes_eq}
use Rattle.mail_wire.specs.Lines.{crlf, lines_of}
use Rattle.mime_tree.specs.declared.marks.Mark.{Mark}
use Rattle.mime_tree.specs.declared.marks.Mark.TheVariants.{Delimiter, Close}
use Rattle.mime_tree.specs.declared.reading.Stop.{Stop}
use Rattle.mime_tree.specs.declared.reading.Start.{Start}
use Rattle.mime_tree.specs.declared.reading.Next.{Next}
use Rattle.mime_tree.specs.declared.reading.Next.TheVariants.{Part as NextPart, End as NextEnd}
use Rattle.mime_tree.specs.Marks.{text_of, dashes, is_padded, is_close}
use Rattle.mime_tree.specs.Parts.{Part, shortened, parts_on}

-- what the text of a line is to a boundary
abbrev pub mark_by : List ℕ → List ℕ → Option Mark
mark_by boundary text =
    if is_padded (dashes ++ boundary) text then Some Delimiter else (if is_padded (dashes ++ boundary ++ dashes) text then Some Close else None)

-- the line of this text is a delimiter line or a close line of one of the boundaries
unfoldable pub is_marked_text : List (List ℕ) → List ℕ → Bool
is_marked_text boundaries text = list_any (λ boundary. is_padded (dashes ++ boundary) text || is_padded (dashes ++ boundary ++ dashes) text) boundaries

abbrev pub is_marked : List (List ℕ) → List ℕ → Bool
is_marked boundaries line = is_marked_text boundaries (text_of line)

-- the first of the lines is marked
unfoldable pub begins_marked : List (List ℕ) → List (List ℕ) → Bool
begins_marked boundaries [] = false
begins_marked boundaries (line ∷ rest) = is_marked boundaries line

-- The lines that come before the first marked one, without the last CRLF where a marked one follows.
unfoldable pub region : List (List ℕ) → List (List ℕ) → List (List ℕ)
region boundaries [] = []
region boundaries (line ∷ rest) = if is_marked boundaries line then [] else (if begins_marked boundaries rest then shortened (text_of line) else line ∷ region boundaries rest)

-- the lines from the first marked one on
unfoldable pub after : List (List ℕ) → List (List ℕ) → List (List ℕ)
after boundaries [] = []
after boundaries (line ∷ rest) = if is_marked boundaries line then line ∷ rest else after boundaries rest

-- a line that has nothing but its CRLF
abbrev pub is_empty_line : List ℕ → Bool
is_empty_line line = bytes_eq line crlf

-- the same up to the first empty line, too
unfoldable pub header : List (List ℕ) → List (List ℕ) → List (List ℕ)
header boundaries [] = []
header boundaries (line ∷ rest) =
    if is_marked boundaries line || is_empty_line line then [] else (if begins_marked boundaries rest then shortened (text_of line) else line ∷ header boundaries rest)

unfoldable pub after_header : List (List ℕ) → List (List ℕ) → List (List ℕ)
after_header boundaries [] = []
after_header boundaries (line ∷ rest) = if is_marked boundaries line || is_empty_line line then line ∷ rest else after_header boundaries rest

-- the lines from a place on
abbrev pub lines_at : List ℕ → ℕ → List (List ℕ)
lines_at octets at = lines_of (drop at octets)

-- Reading from `from` on stops here: at the first marked line, or at the end.
pub record IsStop (boundaries : List (List ℕ)) (octets : List ℕ) (from : ℕ) (stop : Stop) : Type 0 where
  pub lines : lines_at octets stop.at ≡ after boundaries (lines_at octets from)
  pub marked : stop.marked ≡ begins_marked boundaries (lines_at octets stop.at)
  pub onward : from ≤ stop.at
  pub fits : stop.at ≤ length octets

-- The header stops here: at the first marked line, at the first empty line, or at the end.
pub record IsHeaderStop (boundaries : List (List ℕ)) (octets : List ℕ) (from : ℕ) (stop : Stop) : Type 0 where
  pub lines : lines_at octets stop.at ≡ after_header boundaries (lines_at octets from)
  pub marked : stop.marked ≡ begins_marked boundaries (lines_at octets stop.at)
  pub onward : from ≤ stop.at
  pub fits : stop.at ≤ length octets

-- What is read from `from` on begins at `at`: there, or before the CRLF that a marked line takes away, and then nothing is in it.
pub record IsStart (boundaries : List (List ℕ)) (octets : List ℕ) (start : Start) : Type 0 where
  pub fits : start.from ≤ length octets
  pub order : start.at ≤ start.from
  pub place : (start.at ≡ start.from) ⊎ (begins_marked boundaries (lines_at octets start.from) ≡ true)

-- where an entity ends that is read from `from` on and stops there
abbrev pub end_place : ℕ → ℕ → Stop → ℕ
end_place from at stop = if stop.marked then (if stop.at == from then at else stop.at - 2) else stop.at

-- the line, without its CRLF where a marked one follows
abbrev pub kept : List (List ℕ) → List ℕ → List (List ℕ) → List ℕ
kept boundaries line rest = if begins_marked boundaries rest then text_of line else line

-- It begins after the line at `at`.
pub record IsAfterLine (boundaries : List (List ℕ)) (octets : List ℕ) (at : ℕ) (start : Start) : Type 0 where
  pub line : List ℕ
  pub rest : List (List ℕ)
  pub lines : lines_at octets at ≡ line ∷ rest
  pub next : lines_at octets start.from ≡ rest
  pub at_is : start.at ≡ at + length (kept boundaries line rest)
  pub onward : at < start.from
  pub is_start : IsStart boundaries octets start

-- the further parts, where these lines follow a part, the first of them at `at`
abbrev pub later : List (List ℕ) → List ℕ → ℕ → List (List ℕ) → List Part
later boundaries boundary at [] = []
later boundaries boundary at (line ∷ rest) =
    if is_marked boundaries line then [] else (if is_close boundary line then [] else parts_on boundary (at + length (kept boundaries line rest)) [] (region boundaries rest))

-- There are these parts still, from `from` on: none, or those from this one on.
abbrev pub IsNext : List (List ℕ) → List ℕ → List ℕ → List Part → ℕ → Next → Type 0
IsNext boundaries boundary octets parts from (NextEnd stop) = (parts ≡ []) × IsStop boundaries octets from stop
IsNext boundaries boundary octets parts from (NextPart start) =
    (parts ≡ parts_on boundary start.at [] (region boundaries (lines_at octets start.from))) × IsStart boundaries octets start
    × (after boundaries (lines_at octets start.from) ≡ after boundaries (lines_at octets from)) × (from < start.from)

-- The content follows the header that stopped there and ends at `end`: at once, or after the empty line.
abbrev pub IsContentStart : List (List ℕ) → List ℕ → Stop → ℕ → Start → Type 0
IsContentStart boundaries octets stop end content =
    ((content ≡ record { from = stop.at; at = end }) × ((stop.marked ≡ true) ⊎ (length octets ≤ stop.at))) ⊎ ((stop.marked ≡ false) × IsAfterLine boundaries octets stop.at content)
