-- The parts of a reply (RFC 3501, 7), their octets, and what may be sent (RFC 6855, 3; RFC 6857).
use Rattle.std.specs.Prelude.{◌≡◌, ℕ, List, true, take, drop}
use Rattle.std.specs.List.{flat_map, list_all, AllByRecursion}
use Rattle.mail_wire.specs.Octets.{is_ascii}
use Rattle.surrogate_rope.specs.Layout.{HasSurrogate, HasAsciiBlocks}
use Rattle.surrogate_cache.specs.Served.{Mode, legacy, enabled, is_enabled, served_by}
use Rattle.imap_mailboxes.specs.Names.{quoted, shown_name}
use Rattle.session_core.specs.Oracles.{Oracles}

-- A part of a reply.
pub data ReplyPart : Type 0 where
  -- these octets
  text : (octets : List ℕ) → ReplyPart
  -- the name of a folder as the session shows it, as a quoted string
  name : (mode : Mode) (octets : List ℕ) → ReplyPart
  -- of what the mode serves of a message, so many octets from this place on
  shown : (msg : List ℕ) (mode : Mode) (at len : ℕ) → ReplyPart
  -- a view of what the mode serves of a message
  viewed : (mode : Mode) (octets : List ℕ) → ReplyPart

-- the octets of a part
abbrev pub part_octets : Oracles → ReplyPart → List ℕ
part_octets oracles (text octets) = octets
part_octets oracles (name mode octets) = quoted (shown_name (is_enabled mode) octets)
part_octets oracles (shown msg mode at len) = take len (drop at (served_by oracles.surrogate mode msg))
part_octets oracles (viewed mode octets) = octets

-- The octets of the parts, one after another.
abbrev pub reply_octets : Oracles → List ReplyPart → List ℕ
reply_octets oracles parts = flat_map (part_octets oracles) parts

-- All but names, messages and views is ASCII, and so are names and views in a legacy session. What a legacy session is shown of a message is a range of
-- the message's surrogate, all of whose header blocks are ASCII.
abbrev pub IsFit : Oracles → ReplyPart → Type 0
IsFit oracles (text octets) = list_all is_ascii octets ≡ true
IsFit oracles (name legacy octets) = list_all is_ascii (part_octets oracles (name legacy octets)) ≡ true
IsFit oracles (name enabled octets) = Unit {0}
IsFit oracles (shown msg legacy at len) = HasSurrogate msg (oracles.surrogate msg) × HasAsciiBlocks (oracles.surrogate msg)
IsFit oracles (shown msg enabled at len) = Unit {0}
IsFit oracles (viewed legacy octets) = list_all is_ascii octets ≡ true
IsFit oracles (viewed enabled octets) = Unit {0}

-- Each of the parts may be sent in its mode.
abbrev pub AreFit : Oracles → List ReplyPart → Type 0
AreFit oracles parts = AllByRecursion (IsFit oracles) parts
