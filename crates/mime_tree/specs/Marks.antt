-- Delimiter lines and close lines (RFC 2046, 5.1.1).
use Rattle.std.specs.Prelude.{ℕ, List, [], ◌∷◌, ◌++◌, Bool, ◌&&◌, if◌then◌else◌, length, drop, nat_eq}
use Rattle.std.specs.List.{starts_with, list_all}
use Rattle.mail_wire.specs.Characters.{dash}
use Rattle.mail_wire.specs.Lines.{is_crlf}
use Rattle.mail_wire.specs.Octets.{is_white}

-- the text of a line: what stands before its CRLF
unfoldable pub text_of : List ℕ → List ℕ
text_of [] = []
text_of (x ∷ []) = x ∷ []
text_of (x ∷ y ∷ rest) = if is_crlf x y then [] else x ∷ text_of (y ∷ rest)

-- two hyphens
abbrev pub dashes : List ℕ
dashes = dash ∷ dash ∷ []

-- these octets, and then white only
abbrev pub is_padded : List ℕ → List ℕ → Bool
is_padded octets text = starts_with nat_eq text octets && list_all is_white (drop (length octets) text)

-- the line is `--`, the boundary and white only
unfoldable pub is_delimiter : List ℕ → List ℕ → Bool
is_delimiter boundary line = is_padded (dashes ++ boundary) (text_of line)

-- the line is `--`, the boundary, `--` and white only
unfoldable pub is_close : List ℕ → List ℕ → Bool
is_close boundary line = is_padded (dashes ++ boundary ++ dashes) (text_of line)
