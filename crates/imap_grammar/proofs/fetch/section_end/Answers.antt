use Rattle.imap_words.specs.Reading.{never}
use Rattle.imap_words.proofs.Going.{begins, ends_at, passes_on, never_avoids}
use Rattle.imap_words.proofs.Leaving.{here, leaves_all, leaves_then}
use Rattle.imap_grammar.specs.FetchParts.{IsSectionEnd, after_partial}
use Rattle.imap_grammar.proofs.FetchEnds.{memory_on, items_read, partial_avoids, after_close_viable, these_viable}
use Rattle.imap_grammar.proofs.fetch.section_end.Goals as goal

pub returns-in_err-after_close-clause-reads : goal.returns-in_err-after_close-clause-reads
returns-in_err-after_close-clause-reads c = λ utf8.
    let b = c.args.begun in
    passes_on _ _ c.from_residual.result _ c.from_residual.ensures.1
    (ends_at never never _ (begins (IsSectionEnd utf8 b.fetching b.peek b.path c.args.part) c.args.text.now) c.in_err-after_close.ensures (λ _. never_avoids _) (λ _. after_close_viable utf8 b.fetching b.peek b.path c.args.part))

pub returns-in_err-partial-clause-reads : goal.returns-in_err-partial-clause-reads
returns-in_err-partial-clause-reads c = λ utf8.
    let b = c.args.begun in
    let at = leaves_then (leaves_all (IsSectionEnd utf8 b.fetching b.peek b.path c.args.part) c.args.text.now) c.in_ok-after_close.ensures (λ _. never_avoids _) in
    passes_on _ _ c.from_residual-in_err-partial.result _ c.from_residual-in_err-partial.ensures.1
    (ends_at after_partial never _ (here at) c.in_err-partial.ensures (partial_avoids utf8 b.fetching b.peek b.path c.args.part) (λ v. these_viable utf8 b.fetching _))

pub returns-in_err-made-clause-reads : goal.returns-in_err-made-clause-reads
returns-in_err-made-clause-reads c = λ utf8. memory_on _ _ c.from_residual-in_err-made.result _ c.from_residual-in_err-made.ensures.1 c.in_err-made.ensures tt

pub returns-clause-reads : goal.returns-clause-reads
returns-clause-reads c = λ utf8.
    let b = c.args.begun in
    let at = leaves_then (leaves_all (IsSectionEnd utf8 b.fetching b.peek b.path c.args.part) c.args.text.now) c.in_ok-after_close.ensures (λ _. never_avoids _) in
    items_read utf8 b.fetching _ c.in_ok-made.ensures (leaves_then at c.in_ok-partial.ensures (partial_avoids utf8 b.fetching b.peek b.path c.args.part))
