use Rattle.mail_store.proofs.NameLemmas.{takes_number}
use Rattle.mail_store.proofs.names.take_mailbox.Goals as goal

pub returns-clause-others : goal.returns-clause-others
returns-clause-others c = takes_number c.args.numbers.now c.remove-number.new.self c.args.name.now c.remove-number.ensures.updates
