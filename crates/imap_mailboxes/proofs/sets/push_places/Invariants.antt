use Rattle.std.proofs.Common.{◌≡◌, ◌++◌, ◌-◌, ◌≤◌, max}
use Rattle.std.specs.List.{range_with_len}
use Rattle.imap_mailboxes.proofs.sets.push_places.Given as goal

abbrev pub invariant-loop-place : goal.invariant-loop-place
invariant-loop-place l = (l.places.items ≡ l.initial.places.items ++ range_with_len l.from (l.place - l.from)) × (l.place ≤ max l.from l.to)
