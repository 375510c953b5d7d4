-- What a line of a reply says.
use Rattle.std.specs.Prelude.{ℕ, ◌-◌, List, [], if◌then◌else◌, nat_lt, length, take, drop}

-- all after the code and the octet after it, without CRLF
abbrev pub text_of_line : List ℕ → List ℕ
text_of_line line = if nat_lt (length line) 6 then [] else take (length line - 6) (drop 4 line)
