use Rattle.imap_words.specs.Tokens.{is_digit}
use Rattle.imap_words.specs.Reading.{always}
use Rattle.imap_words.specs.Strings.{IsHeader}
use Rattle.imap_words.proofs.Going.{begins, onwards, ends_at, passes_on, never_avoids, is_viable, is_reads}
use Rattle.imap_words.specs.Reading.{never}
use Rattle.imap_words.proofs.HeaderSteps.{size_ends, size_closes, size_viable, brace_avoids}
use Rattle.imap_words.proofs.strings.header.Goals as goal

pub returns-in_err-after_open-clause-reads : goal.returns-in_err-after_open-clause-reads
returns-in_err-after_open-clause-reads c =
    passes_on _ _ c.from_residual.result _ c.from_residual.ensures.1 (ends_at never never _ (begins IsHeader c.args.text.now) c.in_err-after_open.ensures (λ _. never_avoids _) (λ _. size_viable))

pub returns-in_err-size-clause-reads : goal.returns-in_err-size-clause-reads
returns-in_err-size-clause-reads c =
    let size = onwards (begins IsHeader c.args.text.now) c.in_ok-after_open.ensures (λ _. never_avoids _) in
    passes_on _ _ c.from_residual-in_err-size.result _ c.from_residual-in_err-size.ensures.1 (ends_at (always is_digit) never _ size c.in_err-size.ensures brace_avoids size_closes)

pub returns-in_err-after_close-clause-reads : goal.returns-in_err-after_close-clause-reads
returns-in_err-after_close-clause-reads c =
    let size = onwards (begins IsHeader c.args.text.now) c.in_ok-after_open.ensures (λ _. never_avoids _) in
    let close = onwards size c.in_ok-size.ensures brace_avoids in
    passes_on _ _ c.from_residual-in_err-after_close.result _ c.from_residual-in_err-after_close.ensures.1 (ends_at never never _ close c.in_err-after_close.ensures (λ _. never_avoids _) (λ _. size_ends c.in_ok-size.size))

pub returns-in_err-rest-clause-reads : goal.returns-in_err-rest-clause-reads
returns-in_err-rest-clause-reads c =
    let size = onwards (begins IsHeader c.args.text.now) c.in_ok-after_open.ensures (λ _. never_avoids _) in
    let close = onwards size c.in_ok-size.ensures brace_avoids in
    let end = onwards close c.in_ok-after_close.ensures (λ _. never_avoids _) in
    passes_on _ _ c.from_residual-in_err-rest.result _ c.from_residual-in_err-rest.ensures.1 (ends_at never never _ end c.in_err-rest.ensures.reads (λ _. never_avoids _) (λ _. is_viable c.in_ok-size.size))

pub returns-clause-reads : goal.returns-clause-reads
returns-clause-reads c =
    let size = onwards (begins IsHeader c.args.text.now) c.in_ok-after_open.ensures (λ _. never_avoids _) in
    let close = onwards size c.in_ok-size.ensures brace_avoids in
    let end = onwards close c.in_ok-after_close.ensures (λ _. never_avoids _) in
    (onwards end c.in_ok-rest.ensures.reads (λ _. never_avoids _)).reads never _ _ (is_reads c.in_ok-size.size _)
