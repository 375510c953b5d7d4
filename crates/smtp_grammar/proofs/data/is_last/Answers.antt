use Rattle.std.proofs.Common.{arith}
use Rattle.smtp_grammar.proofs.ReadingLemmas.{not_last_by}
use Rattle.smtp_grammar.proofs.data.is_last.Goals as goal

pub returns-then-part-gt3 : goal.returns-then-part-gt3
returns-then-part-gt3 c = not_last_by c.args.line.now c.args.part.now (omega arith)
