-- What a reader of data takes of one line.
use Rattle.std.specs.Prelude.{◌≡◌, ℕ, ◌+◌, ◌≤◌, List, [], ◌++◌, length, Bool, true, false, Some}
use Rattle.mail_wire.specs.Lines.{first_line}
use Rattle.smtp_grammar.specs.Data.{data_cut}
use Rattle.smtp_grammar.specs.Reading.{DataHaveEnded, HasRead}
use Rattle.smtp_grammar.specs.declared.data.DataReader.{DataReader}

-- a line ends with this part of it
abbrev pub EndsLine : (reader : DataReader) (part : List ℕ) → Type 0
EndsLine reader part = first_line (reader.line ++ part) ≡ Some (record { line = reader.line ++ part; rest = [] })

-- nothing was dropped, and with so much more of a line's front the data needn't say more than the limit
abbrev pub DataHaveRoom : (reader : DataReader) (more : List ℕ) → Type 0
DataHaveRoom reader more = (reader.dropped ≡ false) × (length reader.content + (length reader.line + length more) ≤ reader.limit + 2)

-- the data with the last line that came: they have ended, or go on
abbrev pub TakesLine : (reader : DataReader) (octets : List ℕ) (last : Bool) → Type 0
TakesLine reader octets true = (line : List ℕ) × (data_cut octets ≡ Some (record { line = line; rest = [] })) × DataHaveEnded reader line
TakesLine reader octets false = HasRead reader octets
