use Rattle.std.proofs.Common.{length, ◌-◌}
use Rattle.smtp_grammar.proofs.ReadingLemmas.{HasTaken}
use Rattle.smtp_grammar.proofs.data.DataReader.take_lines.Given as goal

abbrev pub invariant-loop-used : goal.invariant-loop-used
invariant-loop-used l = HasTaken l.initial.self l.self l.piece l.used

abbrev pub decreases-loop-used : goal.decreases-loop-used
decreases-loop-used l = length l.piece - l.used
