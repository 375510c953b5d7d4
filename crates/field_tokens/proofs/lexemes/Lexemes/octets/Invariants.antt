use Rattle.std.proofs.Common.{◌≡◌, drop}
use Rattle.field_tokens.proofs.MarkLemmas.{after_marks}
use Rattle.field_tokens.proofs.lexemes.Lexemes.octets.Given as goal

abbrev pub invariant-loop-mark : goal.invariant-loop-mark
invariant-loop-mark l = after_marks l.rest (drop l.mark-index l.marks) ≡ after_marks l.text l.marks
