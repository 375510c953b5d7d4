use Rattle.std.proofs.Common.{take, None}
use Rattle.std.specs.List.{flat_map}
use Rattle.session_core.specs.Keeps.{Keeps}
use Rattle.session_core.specs.Oracles.{WithOracles}
use Rattle.imap_session.specs.Machine.{numbered_at}
use Rattle.imap_session.specs.Replies.{part_octets}
use Rattle.imap_session.specs.private.Messages.{KeepsListing}
use Rattle.imap_session.specs.private.Pending.{Carries}
use Rattle.imap_session.proofs.EachLemmas.{AreLive, AreUntouched}
use Rattle.imap_session.proofs.messages.take_each.Given as goal

abbrev pub invariant-loop-place : goal.invariant-loop-place
invariant-loop-place g l = record {
  carries : WithOracles (λ oracles. Carries (part_octets oracles) l.fn.outside l.outside None l.fn.pending l.pending
      (flat_map (g.E.EachMessage.acts l.each oracles l.fn.outside.desk.store) (flat_map (numbered_at l.fn.messages.items) (take l.place-index l.places))));
  listing : KeepsListing l.fn.outside.desk.store l.outside.desk.store l.fn.messages.items l.messages.items;
  untouched : AreUntouched l.fn.messages.items l.messages.items l.places l.place-index;
  live : AreLive l.outside.desk.store l.messages.items;
  keeps : Keeps l.fn.outside l.outside None;
}
