-- The octets of a reply (RFC 1939, 3), and what may be sent in it (RFC 6856, 2; RFC 6857).
use Rattle.std.specs.Prelude.{◌≡◌, ℕ, ◌++◌, List, true, take, drop, codes}
use Rattle.std.specs.List.{flat_map, list_all, AllByRecursion}
use Rattle.mail_wire.specs.Dots.{missing_end, stuffed}
use Rattle.mail_wire.specs.Lines.{crlf}
use Rattle.mail_wire.specs.Octets.{is_ascii}
use Rattle.surrogate_rope.specs.Layout.{HasSurrogate, HasAsciiBlocks}
use Rattle.surrogate_cache.specs.Served.{legacy, enabled, served_by}
use Rattle.session_core.specs.Oracles.{Oracles}
use Rattle.pop_session.specs.Machine.{ReplyPart, line, shown}

-- the octets of a message in a reply of many lines: each line stuffed, and the last one complete
abbrev pub multi_line : List ℕ → List ℕ
multi_line octets = stuffed octets ++ missing_end octets

-- A text in a reply of many lines, with the line after it that ends the reply (RFC 1939, 3).
abbrev pub ended_lines : List ℕ → List ℕ
ended_lines octets = multi_line octets ++ codes ".\r\n"

-- the octets of a part
abbrev pub part_octets : Oracles → ReplyPart → List ℕ
part_octets oracles (line octets) = octets ++ crlf
part_octets oracles (shown msg mode at len) = multi_line (take len (drop at (served_by oracles.surrogate mode msg)))

-- the octets of a reply
abbrev pub reply_octets : Oracles → List ReplyPart → List ℕ
reply_octets oracles parts = flat_map (part_octets oracles) parts

-- A line is ASCII. What a legacy session is shown is a range of the message's surrogate, all of whose header blocks are ASCII.
abbrev pub IsFit : Oracles → ReplyPart → Type 0
IsFit oracles (line octets) = list_all is_ascii octets ≡ true
IsFit oracles (shown msg legacy at len) = HasSurrogate msg (oracles.surrogate msg) × HasAsciiBlocks (oracles.surrogate msg)
IsFit oracles (shown msg enabled at len) = Unit {0}

-- Each of the parts may be sent.
abbrev pub AreFit : Oracles → List ReplyPart → Type 0
AreFit oracles parts = AllByRecursion (IsFit oracles) parts
