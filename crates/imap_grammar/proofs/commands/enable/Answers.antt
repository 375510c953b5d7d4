use Rattle.imap_words.specs.Reading.{never}
use Rattle.imap_words.proofs.Going.{begins, onwards, ends_at, passes_on, never_avoids, then_viable, is_viable, is_reads}
use Rattle.imap_grammar.specs.Commands.{IsEnable}
use Rattle.imap_grammar.proofs.CommandSteps.{atoms_viable}
use Rattle.imap_grammar.proofs.commands.enable.Goals as goal

pub returns-in_err-after_space-clause-reads : goal.returns-in_err-after_space-clause-reads
returns-in_err-after_space-clause-reads c =
    passes_on _ _ c.from_residual.result _ c.from_residual.ensures.1 (ends_at never never _ (begins IsEnable c.args.text.now) c.in_err-after_space.ensures (λ _. never_avoids _) (λ _. then_viable _ _ atoms_viable (λ words. is_viable _)))

pub returns-in_err-words-clause-reads : goal.returns-in_err-words-clause-reads
returns-in_err-words-clause-reads c =
    let at = onwards (begins IsEnable c.args.text.now) c.in_ok-after_space.ensures (λ _. never_avoids _) in
    passes_on _ _ c.from_residual-in_err-words.result _ c.from_residual-in_err-words.ensures.1 (ends_at never never _ at c.in_err-words.ensures.reads (λ _. never_avoids _) (λ words. is_viable _))

pub returns-clause-reads : goal.returns-clause-reads
returns-clause-reads c =
    let at = onwards (begins IsEnable c.args.text.now) c.in_ok-after_space.ensures (λ _. never_avoids _) in
    λ utf8. (onwards at c.in_ok-words.ensures.reads (λ _. never_avoids _)).reads never _ _ (is_reads _ _)
