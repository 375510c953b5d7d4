use Rattle.std.proofs.Common.{length}
use Rattle.encoded_words.proofs.Reading.{Reads}
use Rattle.encoded_words.proofs.units.read_unstructured.Given as goal

abbrev pub invariant-loop-rest : goal.invariant-loop-rest
invariant-loop-rest l = Reads l.text l.units l.run l.after_encoded l.rest

abbrev pub decreases-loop-rest : goal.decreases-loop-rest
decreases-loop-rest l = length l.rest
