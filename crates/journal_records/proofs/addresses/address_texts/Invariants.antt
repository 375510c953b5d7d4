use Rattle.std.proofs.Common.{◌≡◌, map, take}
use Rattle.address_grammar.specs.Addresses.{address_text}
use Rattle.journal_records.proofs.addresses.address_texts.Given as goal

abbrev pub invariant-loop-address : goal.invariant-loop-address
invariant-loop-address l = l.texts.items ≡ map address_text (take l.address-index l.addresses)
