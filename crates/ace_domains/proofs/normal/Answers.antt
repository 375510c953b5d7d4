use Rattle.std.proofs.Common.{rules}
use Rattle.ace_domains.proofs.FormLemmas.{form_name}
use Rattle.ace_domains.proofs.normal.Goals as goal

pub returns-in-Ok-clause-name : goal.returns-in-Ok-clause-name
returns-in-Ok-clause-name c = form_name c.args.domain.now _ (search rules)
