use Rattle.std.proofs.Common.{◌≡◌, ◌++◌, ◌+◌, drop, take, string_bytes, codes, None}
use Rattle.mail_wire.specs.Lines.{crlf}
use Rattle.session_core.specs.Doing.{Asks}
use Rattle.session_core.specs.Keeps.{Keeps}
use Rattle.session_core.specs.Oracles.{WithOracles}
use Rattle.pop_session.specs.Machine.{asked_for_left, listing_from, size_of}
use Rattle.pop_session.specs.Replies.{reply_octets}
use Rattle.pop_session.proofs.replies.list.Given as goal

abbrev pub invariant-loop-place : goal.invariant-loop-place
invariant-loop-place g l = record {
  text : WithOracles (λ oracles. string_bytes l.text ++ reply_octets oracles (listing_from (size_of oracles g.V.View.mode l.fn.outside.desk.store) (l.place + 1) (drop l.place l.maildrop))
      ≡ codes "+OK" ++ crlf ++ reply_octets oracles (listing_from (size_of oracles g.V.View.mode l.fn.outside.desk.store) 1 l.maildrop));
  asks : Asks l.fn.outside l.outside None (asked_for_left g.V.View.mode l.fn.outside.desk.store (take l.place l.maildrop));
  keeps : Keeps l.fn.outside l.outside None;
}
