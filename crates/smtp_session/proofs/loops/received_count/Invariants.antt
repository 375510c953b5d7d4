use Rattle.std.proofs.Common.{◌≡◌, take}
use Rattle.std.specs.List.{count_by}
use Rattle.smtp_session.proofs.LoopLemmas.{is_received_field}
use Rattle.smtp_session.proofs.loops.received_count.Given as goal

abbrev pub invariant-loop-field : goal.invariant-loop-field
invariant-loop-field l = l.count ≡ count_by (is_received_field l.octets) (take l.field-index l.field-items)
