use Rattle.std.proofs.Common.{ap, ◌∙◌, unwrap_or}
use Rattle.pop_session.specs.declared.command.Keyword.TheVariants.{Other}
use Rattle.pop_session.proofs.command.read_keyword.Goals as goal

pub returns : goal.returns
returns c = c.unwrap_or.ensures ∙ ap (λ found. unwrap_or found Other) c.find_word.ensures
