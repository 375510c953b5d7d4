use Rattle.std.proofs.Common.{ap, ◌∙◌, unwrap_or}
use Rattle.smtp_grammar.specs.declared.command.Verb.TheVariants.{Other}
use Rattle.smtp_grammar.proofs.command.read_verb.Goals as goal

pub returns : goal.returns
returns c = c.unwrap_or.ensures ∙ ap (λ found. unwrap_or found Other) c.find_word.ensures
