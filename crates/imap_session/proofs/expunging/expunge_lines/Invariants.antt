use Rattle.std.proofs.Common.{◌≡◌, ◌≤◌, ◌+◌, ◌++◌, drop}
use Rattle.session_core.specs.Oracles.{Oracles}
use Rattle.imap_session.specs.Machine.{closing_up}
use Rattle.imap_session.specs.Replies.{reply_octets}
use Rattle.imap_session.proofs.expunging.expunge_lines.Given as goal

abbrev pub invariant-loop-one : goal.invariant-loop-one
invariant-loop-one l = record {
  few : l.number ≤ l.one-index + 1;
  lines : (oracles : Oracles) → l.lines ++ reply_octets oracles (closing_up l.number (drop l.one-index l.messages)) ≡ reply_octets oracles (closing_up 1 l.messages);
}
