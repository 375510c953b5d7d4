use Rattle.std.proofs.Common.{refl}
use Rattle.smtp_grammar.proofs.ReadingLemmas.{read_nothing}
use Rattle.smtp_grammar.proofs.data.DataReader.new.Goals as goal

pub returns-clause-read : goal.returns-clause-read
returns-clause-read c = read_nothing _ c.new.ensures c.new-2.ensures refl
