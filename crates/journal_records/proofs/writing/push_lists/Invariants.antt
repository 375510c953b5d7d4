use Rattle.std.proofs.Common.{◌≡◌, ◌++◌, take}
use Rattle.std.specs.List.{flat_map}
use Rattle.journal_records.specs.Spelling.{octet_list}
use Rattle.journal_records.proofs.writing.push_lists.Given as goal

abbrev pub invariant-loop-list : goal.invariant-loop-list
invariant-loop-list l = l.journal ≡ l.initial.journal ++ flat_map octet_list (take l.list-index l.lists)
