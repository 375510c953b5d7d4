-- Lines of a report.
use Rattle.std.specs.Prelude.{ℕ, List, ◌++◌}
use Rattle.mail_wire.specs.Lines.{crlf}

-- a text on a line of its own
abbrev pub text_line : List ℕ → List ℕ
text_line text = text ++ crlf

-- a header field on one line (RFC 5322, 2.2): its name, colon and space, and its body
abbrev pub field_line : List ℕ → List ℕ → List ℕ
field_line name body = name ++ (body ++ crlf)
