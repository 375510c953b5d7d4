use Rattle.smtp_grammar.proofs.DataLemmas.{data_cut-parts, data_dots}
use Rattle.smtp_grammar.proofs.laws.data_end_once.Goals as goal

pub returns-clause-none : goal.returns-clause-none
returns-clause-none c = data_dots

pub returns-clause-split : goal.returns-clause-split
returns-clause-split c octets cut h = (data_cut-parts octets cut h).parts
