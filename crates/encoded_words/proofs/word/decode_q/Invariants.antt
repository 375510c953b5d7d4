use Rattle.std.proofs.Common.{length}
use Rattle.encoded_words.proofs.QText.{ReadsQ}
use Rattle.encoded_words.proofs.word.decode_q.Given as goal

abbrev pub invariant-loop-rest : goal.invariant-loop-rest
invariant-loop-rest l = ReadsQ l.text l.octets.items l.rest

abbrev pub decreases-loop-rest : goal.decreases-loop-rest
decreases-loop-rest l = length l.rest
