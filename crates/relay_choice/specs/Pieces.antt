-- Replies that come in pieces (RFC 5321, 4.2).
use Rattle.std.specs.Prelude.{◌≡◌, ℕ, ◌≤◌, ◌<◌, List, ◌++◌, length, take}
use Rattle.relay_choice.specs.declared.reading.Taken.{Taken}
use Rattle.relay_choice.specs.declared.reading.Taken.TheVariants as taken
use Rattle.relay_choice.specs.Replies.{IsDecided}
use Rattle.relay_choice.specs.declared.reader.ReplyReader.{ReplyReader}
use Rattle.relay_choice.specs.private.Places.{IsReplyFront}

-- what is kept is the front of a reply
abbrev pub HasBegunReply : ReplyReader → Type 0
HasBegunReply reader = IsReplyFront reader.octets reader.place

-- the octets that came before and so many of the piece, the last of which decides
pub record DecidesBy (before piece octets : List ℕ) (used : ℕ) : Type 0 where
  pub some : 0 < used
  pub fits : used ≤ length piece
  pub octets_are : octets ≡ before ++ take used piece
  pub decided : IsDecided octets

-- the front of a reply, with all of the piece
pub record BeginsBy (before piece : List ℕ) (reader : ReplyReader) : Type 0 where
  pub octets_are : reader.octets ≡ before ++ piece
  pub begun : HasBegunReply reader

-- what came of a piece after these octets of a reply
abbrev pub TakesReplyPiece : (before piece : List ℕ) → Taken → Type 0
TakesReplyPiece before piece (taken.Begun reader) = BeginsBy before piece reader
TakesReplyPiece before piece (taken.Decided octets used) = DecidesBy before piece octets used
