-- The data of a message (RFC 5321, 4.1.1.4 and 4.5.2).
use Rattle.std.specs.Prelude.{ℕ, ◌++◌, List, [], ◌∷◌, take, drop, codes, Option, Some, None, option_map, if◌then◌else◌}
use Rattle.std.specs.Str.{bytes_eq}
use Rattle.mail_wire.specs.Dots.{stuffed}
use Rattle.mail_wire.specs.Lines.{Cut, begun_with, crlf}

-- ---- the end of the data

-- the data end with a line that is a dot alone: with this text, the first CRLF of which ends the line before it
abbrev pub data_end : List ℕ
data_end = codes "\r\n.\r\n"

-- up to the CRLF with which the first such text begins, and what follows the text
unfoldable pub end_cut : List ℕ → Option Cut
end_cut [] = None
end_cut (x ∷ rest) =
    if bytes_eq (take 5 (x ∷ rest)) data_end then Some (record { line = crlf; rest = drop 5 (x ∷ rest) })
    else option_map (begun_with x) (end_cut rest)

-- Data without the CRLF before them, which is that of the command DATA (RFC 5321, 4.1.1.4).
abbrev pub following_command : Cut → Cut
following_command cut = record { line = drop 2 cut.line; rest = cut.rest }

-- The data, each line with its CRLF, and what follows the line that ends them. The CRLF before the data is that of the command.
abbrev pub data_cut : List ℕ → Option Cut
data_cut octets = option_map following_command (end_cut (crlf ++ octets))

-- ---- what a client sends

-- lines as data, the line that ends them, and what follows
abbrev pub sent : (octets rest : List ℕ) → List ℕ
sent octets rest = stuffed octets ++ (codes ".\r\n" ++ rest)
