use Rattle.std.proofs.Common.{◌≡◌, ◌++◌, take}
use Rattle.std.specs.List.{flat_map}
use Rattle.utf8_reports.specs.Recipients.{recipient_fields}
use Rattle.utf8_reports.proofs.recipients.push_recipients.Given as goal

abbrev pub invariant-loop-one : goal.invariant-loop-one
invariant-loop-one l = l.made ≡ l.initial.made ++ flat_map (recipient_fields l.global) (take l.one-index l.failed)
