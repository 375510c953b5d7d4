use Rattle.std.proofs.Common.{codes, rules}
use Rattle.dsn_terms.specs.Parameters.{value_under}
use Rattle.dsn_terms.proofs.KeptFacts.{EnvidSays-kept}
use Rattle.dsn_terms.proofs.mail_terms.read_mail_terms.Goals as goal

pub returns-clause-kept : goal.returns-clause-kept
returns-clause-kept c = EnvidSays-kept (value_under (codes "ENVID=") c.args.params.now) _ (search rules)
