use Rattle.std.proofs.Common.{◌≡◌, ◌++◌, ◌+◌, drop, string_bytes, codes}
use Rattle.mail_wire.specs.Lines.{crlf}
use Rattle.session_core.specs.Oracles.{Oracles}
use Rattle.pop_session.specs.Machine.{listing_from, uid_row}
use Rattle.pop_session.specs.Replies.{reply_octets}
use Rattle.pop_session.proofs.replies.uidl.Given as goal

abbrev pub invariant-loop-place : goal.invariant-loop-place
invariant-loop-place l =
    (oracles : Oracles) → string_bytes l.text ++ reply_octets oracles (listing_from uid_row (l.place + 1) (drop l.place l.maildrop))
    ≡ codes "+OK" ++ crlf ++ reply_octets oracles (listing_from uid_row 1 l.maildrop)
