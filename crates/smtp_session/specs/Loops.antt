-- Messages that go in a circle (RFC 5321, 6.3).
use Rattle.std.specs.Prelude.{ℕ, List, Bool, codes, nat_le, not}
use Rattle.std.specs.List.{count_by, take_while}
use Rattle.std.specs.Str.{bytes_eq}
use Rattle.mail_wire.specs.Lines.{crlf, lines_of}
use Rattle.mail_wire.specs.Octets.{is_field_name_octet, same_name}

-- The lines of the header block: those before the first empty line (RFC 5322, 2.1).
abbrev pub header_lines : List ℕ → List (List ℕ)
header_lines octets = take_while (λ line. not (bytes_eq line crlf)) (lines_of octets)

-- The octets of a field's name that a line begins with. A line that goes on with a field has none (RFC 5322, 2.2.3).
abbrev pub line_name : List ℕ → List ℕ
line_name line = take_while is_field_name_octet line

-- the name of the field that each server puts before a message (RFC 5321, 4.4)
abbrev pub is_received : List ℕ → Bool
is_received name = same_name name (codes "Received")

-- How many fields of the message's own header block are named Received.
unfoldable pub received_count : List ℕ → ℕ
received_count octets = count_by (λ line. is_received (line_name line)) (header_lines octets)

-- A message with 100 such fields or more goes in a circle (RFC 5321, 6.3).
abbrev pub is_looping : List ℕ → Bool
is_looping octets = nat_le 100 (received_count octets)
