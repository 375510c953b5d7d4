use Rattle.imap_words.specs.Reading.{never}
use Rattle.imap_words.proofs.Going.{begins, onwards, ends_at, passes_on, never_avoids, is_viable, is_reads}
use Rattle.imap_grammar.specs.Commands.{IsBareCommand}
use Rattle.imap_grammar.proofs.commands.bare.Goals as goal

pub returns-in_err-rest-clause-reads : goal.returns-in_err-rest-clause-reads
returns-in_err-rest-clause-reads c =
    passes_on _ _ c.from_residual.result _ c.from_residual.ensures.1 (ends_at never never _ (begins (IsBareCommand c.args.command) c.args.text.now) c.in_err-rest.ensures.reads (λ _. never_avoids _) (λ _. is_viable c.args.command))

pub returns-clause-reads : goal.returns-clause-reads
returns-clause-reads c = λ utf8. (onwards (begins (IsBareCommand c.args.command) c.args.text.now) c.in_ok-rest.ensures.reads (λ _. never_avoids _)).reads never _ _ (is_reads c.args.command _)
