-- Decimal numbers (RFC 5234, B.1, DIGIT).
use Rattle.std.specs.Prelude.{ℕ, ◌+◌, ◌-◌, ◌*◌, Bool, ◌&&◌, nat_le, List, [], ◌∷◌, Option, Some, None, if◌then◌else◌, fold}
use Rattle.std.specs.List.{list_all}

-- DIGIT, 0 to 9 (RFC 5234, B.1).
abbrev pub is_digit : ℕ → Bool
is_digit x = nat_le 48 x && nat_le x 57

-- what digits write
abbrev pub number_written : List ℕ → ℕ
number_written digits = fold (λ n digit. n * 10 + (digit - 48)) 0 digits

-- the number of one or more digits; another text is none
unfoldable pub number_of : List ℕ → Option ℕ
number_of [] = None
number_of (x ∷ digits) = if list_all is_digit (x ∷ digits) then Some (number_written (x ∷ digits)) else None
