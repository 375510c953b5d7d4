use Rattle.std.proofs.Common.{length}
use Rattle.field_tokens.proofs.MarkLemmas.{ReadsMarks}
use Rattle.field_tokens.proofs.lexemes.read_marks.Given as goal

abbrev pub invariant-loop-rest : goal.invariant-loop-rest
invariant-loop-rest l = ReadsMarks l.style l.text l.marks.items l.rest

abbrev pub decreases-loop-rest : goal.decreases-loop-rest
decreases-loop-rest l = length l.rest
