use Rattle.std.proofs.Common.{◌≡◌, ◌-◌}
use Rattle.journal_records.specs.private.Reading.{lists_at}
use Rattle.journal_records.proofs.ListsLoop.{with_front}
use Rattle.journal_records.proofs.reading.lists_of.Given as goal

abbrev pub invariant-loop : goal.invariant-loop
invariant-loop l = with_front l.texts.items (lists_at (l.count - l.counter) l.rest) ≡ lists_at l.count l.octets
