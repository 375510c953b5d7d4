use Rattle.kept_mail.proofs.NameLemmas.{takes_others}
use Rattle.kept_mail.proofs.names.take_back.Goals as goal

pub returns-clause-others : goal.returns-clause-others
returns-clause-others c = takes_others c.args.numbers.now c.remove-number.new.self c.args.name.now c.remove-number.ensures.updates
