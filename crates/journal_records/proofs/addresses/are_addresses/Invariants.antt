use Rattle.std.proofs.Common.{take, All}
use Rattle.journal_records.specs.Addresses.{IsKeptAddress}
use Rattle.journal_records.proofs.addresses.are_addresses.Given as goal

abbrev pub invariant-loop-text : goal.invariant-loop-text
invariant-loop-text l = All IsKeptAddress (take l.text-index l.texts)
