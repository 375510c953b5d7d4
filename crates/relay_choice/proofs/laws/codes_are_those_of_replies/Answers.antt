use Rattle.relay_choice.proofs.CodeLemmas.{reply_code, settled_fit}
use Rattle.relay_choice.proofs.laws.codes_are_those_of_replies.Goals as goal

pub returns-clause-reply : goal.returns-clause-reply
returns-clause-reply c = reply_code

pub returns-clause-outcome : goal.returns-clause-outcome
returns-clause-outcome c = settled_fit
