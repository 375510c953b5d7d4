-- Kinds of octets (RFC 5234, B.1), and names that are the same whatever the ASCII case (RFC 5322, 1.2.2).
use Rattle.std.specs.Prelude.{ℕ, Bool, ◌||◌, ◌&&◌, ◌==◌, not, nat_lt, nat_le, nat_eq, List}
use Rattle.std.specs.Str.{bytes_eq, str_to_ascii_lowercase}
use Rattle.std.specs.List.{list_all}
use Rattle.mail_wire.specs.Characters.{tab, line_feed, carriage_return, space, colon}

-- space or horizontal tab (RFC 5234, WSP)
abbrev pub is_white : ℕ → Bool
is_white x = x == space || x == tab

-- CR or LF
abbrev pub is_line_end : ℕ → Bool
is_line_end x = x == carriage_return || x == line_feed

-- no white
abbrev pub is_nonwhite : ℕ → Bool
is_nonwhite x = not (is_white x)

-- an octet below 128
abbrev pub is_ascii : ℕ → Bool
is_ascii x = nat_lt x 128

-- an octet above 127 is among them
abbrev pub is_high : List ℕ → Bool
is_high octets = not (list_all is_ascii octets)

-- an octet of a field's name: 33 to 126, and no colon (RFC 5322, 3.6.8)
abbrev pub is_field_name_octet : ℕ → Bool
is_field_name_octet x = nat_le 33 x && nat_le x 126 && not (nat_eq x colon)

-- Two texts are the same, whatever the case of their ASCII letters.
unfoldable pub same_name : List ℕ → List ℕ → Bool
same_name name other = bytes_eq (str_to_ascii_lowercase name) (str_to_ascii_lowercase other)
