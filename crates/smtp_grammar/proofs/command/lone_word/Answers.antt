use Rattle.std.proofs.Common.{rules}
use Rattle.smtp_grammar.proofs.ParameterLemmas.{lone_word_is}
use Rattle.smtp_grammar.proofs.command.lone_word.Goals as goal

pub returns-in-len1-up : goal.returns-in-len1-up
returns-in-len1-up c = lone_word_is c.args.rest.now _ c.in-len1-up.len_at_least (search rules) (search rules) (search rules) (search rules)
