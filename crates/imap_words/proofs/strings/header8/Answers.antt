use Rattle.imap_words.specs.Reading.{never}
use Rattle.imap_words.specs.Strings.{IsHeader8}
use Rattle.imap_words.proofs.Going.{begins, onwards, ends_at, passes_on, never_avoids}
use Rattle.imap_words.proofs.HeaderSteps.{header_viable}
use Rattle.imap_words.proofs.strings.header8.Goals as goal

pub returns-in_err-after_tilde-clause-reads : goal.returns-in_err-after_tilde-clause-reads
returns-in_err-after_tilde-clause-reads c =
    passes_on _ _ c.from_residual.result _ c.from_residual.ensures.1 (ends_at never never _ (begins IsHeader8 c.args.text.now) c.in_err-after_tilde.ensures (λ _. never_avoids _) (λ _. header_viable))

pub returns-in_err-size-clause-reads : goal.returns-in_err-size-clause-reads
returns-in_err-size-clause-reads c =
    passes_on _ _ c.from_residual-in_err-size.result _ c.from_residual-in_err-size.ensures.1 ((onwards (begins IsHeader8 c.args.text.now) c.in_ok-after_tilde.ensures (λ _. never_avoids _)).stops never _ c.in_err-size.ensures.reads)

pub returns-clause-reads : goal.returns-clause-reads
returns-clause-reads c = (onwards (begins IsHeader8 c.args.text.now) c.in_ok-after_tilde.ensures (λ _. never_avoids _)).reads never _ _ c.in_ok-size.ensures.reads
