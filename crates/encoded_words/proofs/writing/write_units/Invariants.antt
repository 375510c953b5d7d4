use Rattle.encoded_words.proofs.AddedUnits.{WritesSo}
use Rattle.encoded_words.proofs.writing.write_units.Given as goal

abbrev pub invariant-loop-unit : goal.invariant-loop-unit
invariant-loop-unit l = WritesSo l.units l.unit-index l.fn.made l.made
