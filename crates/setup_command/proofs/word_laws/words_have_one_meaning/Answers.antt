use Rattle.setup_command.proofs.FormLemmas.{account_once, by_input_once}
use Rattle.setup_command.proofs.word_laws.words_have_one_meaning.Goals as goal

pub returns-clause-address : goal.returns-clause-address
returns-clause-address c = account_once

pub returns-clause-by_input : goal.returns-clause-by_input
returns-clause-by_input c = by_input_once
