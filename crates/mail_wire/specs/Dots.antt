-- Dots that are put before lines, so that a line of one dot ends a text (RFC 1939, 3; RFC 5321, 4.5.2).
use Rattle.std.specs.Prelude.{ℕ, ◌==◌, List, [], ◌∷◌, Bool, true, false, if◌then◌else◌}
use Rattle.std.specs.List.{flat_map}
use Rattle.mail_wire.specs.Characters.{dot}
use Rattle.mail_wire.specs.Lines.{crlf, is_crlf, lines_of}

-- a dot before a line that begins with one
abbrev pub stuffed_line : List ℕ → List ℕ
stuffed_line [] = []
stuffed_line (x ∷ rest) = if x == dot then dot ∷ dot ∷ rest else x ∷ rest

-- a line without the dot that it begins with, where it begins with one
abbrev pub unstuffed_line : List ℕ → List ℕ
unstuffed_line [] = []
unstuffed_line (x ∷ rest) = if x == dot then rest else x ∷ rest

-- each line stuffed
unfoldable pub stuffed : List ℕ → List ℕ
stuffed octets = flat_map stuffed_line (lines_of octets)

-- each line without its dot
unfoldable pub unstuffed : List ℕ → List ℕ
unstuffed octets = flat_map unstuffed_line (lines_of octets)

-- there are none, or they end in CRLF
unfoldable pub are_complete : List ℕ → Bool
are_complete [] = true
are_complete (x ∷ []) = false
are_complete (x ∷ y ∷ []) = is_crlf x y
are_complete (x ∷ y ∷ z ∷ rest) = are_complete (y ∷ z ∷ rest)

-- the CRLF that the last line lacks
abbrev pub missing_end : List ℕ → List ℕ
missing_end octets = if are_complete octets then [] else crlf
