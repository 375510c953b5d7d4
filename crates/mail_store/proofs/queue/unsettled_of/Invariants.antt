use Rattle.std.proofs.Common.{take}
use Rattle.std.specs.List.{AllZip}
use Rattle.mail_store.specs.Queue.{IsUnsettledAt, places_where, waits}
use Rattle.mail_store.proofs.queue.unsettled_of.Given as goal

abbrev pub invariant-loop-index : goal.invariant-loop-index
invariant-loop-index l = AllZip (IsUnsettledAt l.recipients) (places_where waits 0 (take l.index l.recipients)) l.unsettled.items
