use Rattle.mail_wire.proofs.DotLemmas.{unstuffed_back}
use Rattle.smtp_grammar.proofs.SentLines.{sent_found}
use Rattle.smtp_grammar.proofs.laws.sent_data_are_found.Goals as goal

pub returns-clause-found : goal.returns-clause-found
returns-clause-found c = sent_found

pub returns-clause-back : goal.returns-clause-back
returns-clause-back c = unstuffed_back
