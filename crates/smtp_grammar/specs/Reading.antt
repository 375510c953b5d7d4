-- Data that come in pieces (RFC 5321, 4.1.1.4 and 4.5.2), and of which no more than a limit is kept.
use Rattle.std.specs.Prelude.{◌≡◌, ◌≢◌, ℕ, ◌+◌, ◌-◌, ◌<◌, ◌≤◌, List, [], ◌++◌, length, drop, codes, Bool, true, false, if◌then◌else◌, Option, Some, None}
use Rattle.std.specs.List.{All, concat}
use Rattle.mail_wire.specs.Dots.{unstuffed}
use Rattle.mail_wire.specs.Lines.{Cut, first_line}
use Rattle.smtp_grammar.specs.Data.{data_cut}
use Rattle.smtp_grammar.specs.declared.data.DataReader.{DataReader}

-- a line of data: it goes up to its first CRLF, and isn't the one that ends them
pub record IsDataLine (line : List ℕ) : Type 0 where
  pub whole : first_line line ≡ Some (record { line = line; rest = [] })
  pub not_last : line ≢ codes ".\r\n"

-- data that begin with these octets say more than the limit, whatever else is to come of them
abbrev pub SayTooMuch : (limit : ℕ) (octets : List ℕ) → Type 0
SayTooMuch limit octets = (more : List ℕ) (cut : Cut) → data_cut (octets ++ more) ≡ Some cut → limit < length (unstuffed cut.line)

-- The last four octets, or all of fewer: enough of a line's front to see where it ends, and that it is longer than a dot and CRLF.
abbrev pub last_four : List ℕ → List ℕ
last_four octets = drop (length octets - 4) octets

-- no more is kept than the limit and four octets
abbrev pub IsBounded : DataReader → Type 0
IsBounded reader = length reader.content + length reader.line ≤ reader.limit + 4

-- what is kept of these whole lines, and of the front of a next one
pub record KeepsAll (reader : DataReader) (lines : List (List ℕ)) (front : List ℕ) : Type 0 where
  pub content : reader.content ≡ unstuffed (concat lines)
  pub line : reader.line ≡ front
  pub short : length reader.content ≤ reader.limit

-- what is kept of data that say too much
pub record KeepsTail (reader : DataReader) (lines : List (List ℕ)) (front : List ℕ) : Type 0 where
  pub content : reader.content ≡ []
  pub line : reader.line ≡ last_four front
  pub long : SayTooMuch reader.limit (concat lines ++ front)

-- What a reader keeps of data: all of them, or no more than what shows their end once they pass the limit.
abbrev pub KeepsAs : (dropped : Bool) (reader : DataReader) (lines : List (List ℕ)) (front : List ℕ) → Type 0
KeepsAs true reader lines front = KeepsTail reader lines front
KeepsAs false reader lines front = KeepsAll reader lines front

-- All octets of the data that came so far, which have no end: whole lines, and the front of a next one.
pub record HasRead (reader : DataReader) (octets : List ℕ) : Type 0 where
  pub lines : List (List ℕ)
  pub are_lines : All IsDataLine lines
  pub front : List ℕ
  pub unended : first_line front ≡ None
  pub octets_are : octets ≡ concat lines ++ front
  pub keeps : KeepsAs reader.dropped reader lines front
  pub bounded : IsBounded reader

-- what lines of data say, and none where that is more than the limit
abbrev pub DataSay : (limit : ℕ) (line : List ℕ) → Option (List ℕ) → Type 0
DataSay limit line (Some content) = (content ≡ unstuffed line) × (length content ≤ limit)
DataSay limit line None = limit < length (unstuffed line)

-- the data have ended, and were these lines
abbrev pub DataHaveEnded : (reader : DataReader) (line : List ℕ) → Type 0
DataHaveEnded reader line = DataSay reader.limit line (if reader.dropped then None else Some reader.content)

-- the end of the data stands in the piece, so many octets of which are theirs
pub record HasFoundEnd (reader : DataReader) (octets piece : List ℕ) (used : ℕ) : Type 0 where
  pub some : 0 < used
  pub fits : used ≤ length piece
  pub line : List ℕ
  pub cut : data_cut (octets ++ piece) ≡ Some (record { line = line; rest = drop used piece })
  pub ended : DataHaveEnded reader line

-- what a reader that had read these octets took of a piece
abbrev pub TakesOfPiece : (reader : DataReader) (octets piece : List ℕ) (found : Option ℕ) → Type 0
TakesOfPiece reader octets piece None = (data_cut (octets ++ piece) ≡ None) × HasRead reader (octets ++ piece)
TakesOfPiece reader octets piece (Some used) = HasFoundEnd reader octets piece used
