use Rattle.std.proofs.Common.{sym, subst, List, ℕ, refl}
use Rattle.mail_command.specs.Words.{Names}
use Rattle.mail_command.proofs.WordsLemmas.{one_word}
use Rattle.mail_command.proofs.command.command_of.Goals as goal

pub returns-in-Some-None-clause-names : goal.returns-in-Some-None-clause-names
returns-in-Some-None-clause-names c =
    subst (λ (words : List (List ℕ)). Names words c.command_named.result) (sym (one_word c.args.words.now c.in-Some-None.word.now c.in-Some-None.ensures.some (c.in-Some-None.ensures'.none.0 refl)))
    c.command_named.ensures
