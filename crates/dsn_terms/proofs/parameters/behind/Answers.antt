use Rattle.std.proofs.Common.{ap, ◌∙◌}
use Rattle.std.specs.Option.{option_copied}
use Rattle.dsn_terms.proofs.ParameterFacts.{behind-short}
use Rattle.dsn_terms.proofs.parameters.behind.Goals as goal

pub returns-in_err-first : goal.returns-in_err-first
returns-in_err-first c = ap option_copied c.from_residual.ensures ∙ behind-short c.args.front.now c.args.text.now c.in_err-first.ensures.cases
