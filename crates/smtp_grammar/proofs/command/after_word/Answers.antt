use Rattle.std.proofs.Common.{ap, ◌∙◌}
use Rattle.std.specs.Option.{option_copied}
use Rattle.smtp_grammar.proofs.PathLemmas.{after_word-short}
use Rattle.smtp_grammar.proofs.command.after_word.Goals as goal

pub returns-in_err-front : goal.returns-in_err-front
returns-in_err-front c = ap option_copied c.from_residual.ensures ∙ after_word-short c.args.word.now c.args.text.now c.in_err-front.ensures.cases
