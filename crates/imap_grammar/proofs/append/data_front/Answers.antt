use Rattle.imap_words.specs.Reading.{never}
use Rattle.imap_words.proofs.Going.{onwards, ends_at, passes_on, never_avoids, is_viable, is_reads}
use Rattle.imap_grammar.proofs.AppendSteps.{front_more, plainly, in_utf8, in_space_viable, in_open_viable, in_form_viable}
use Rattle.imap_grammar.proofs.append.data_front.Goals as goal

pub returns-in_default-clause-reads : goal.returns-in_default-clause-reads
returns-in_default-clause-reads c = front_more c.args.text.now c.in_default.ensures.cases

pub returns-in_err-size-clause-reads : goal.returns-in_err-size-clause-reads
returns-in_err-size-clause-reads c =
    passes_on _ _ c.from_residual.result _ c.from_residual.ensures.1
    (ends_at never never _ (plainly c.args.text.now _ _ c.in-Some.ensures.cases.0 c.if-first-eq123.true) c.in_err-size.ensures.reads (λ _. never_avoids _) (λ size. is_viable _))

pub returns-then-first-eq123-clause-reads : goal.returns-then-first-eq123-clause-reads
returns-then-first-eq123-clause-reads c =
    (onwards (plainly c.args.text.now _ _ c.in-Some.ensures.cases.0 c.if-first-eq123.true) c.in_ok-size.ensures.reads (λ _. never_avoids _)).reads never _ _ (is_reads _ _)

pub returns-in_err-after_word-clause-reads : goal.returns-in_err-after_word-clause-reads
returns-in_err-after_word-clause-reads c =
    passes_on _ _ c.from_residual-in_err-after_word.result _ c.from_residual-in_err-after_word.ensures.1
    (ends_at never never _ (in_utf8 c.args.text.now _ _ c.in-Some.ensures.cases.0 c.if-first-eq123.false) c.in_err-after_word.ensures (λ _. never_avoids _) (λ _. in_space_viable))

pub returns-in_err-after_space-clause-reads : goal.returns-in_err-after_space-clause-reads
returns-in_err-after_space-clause-reads c =
    let word = onwards (in_utf8 c.args.text.now _ _ c.in-Some.ensures.cases.0 c.if-first-eq123.false) c.in_ok-after_word.ensures (λ _. never_avoids _) in
    passes_on _ _ c.from_residual-in_err-after_space.result _ c.from_residual-in_err-after_space.ensures.1 (ends_at never never _ word c.in_err-after_space.ensures (λ _. never_avoids _) (λ _. in_open_viable))

pub returns-in_err-after_open-clause-reads : goal.returns-in_err-after_open-clause-reads
returns-in_err-after_open-clause-reads c =
    let word = onwards (in_utf8 c.args.text.now _ _ c.in-Some.ensures.cases.0 c.if-first-eq123.false) c.in_ok-after_word.ensures (λ _. never_avoids _) in
    let space = onwards word c.in_ok-after_space.ensures (λ _. never_avoids _) in
    passes_on _ _ c.from_residual-in_err-after_open.result _ c.from_residual-in_err-after_open.ensures.1 (ends_at never never _ space c.in_err-after_open.ensures (λ _. never_avoids _) (λ _. in_form_viable))

pub returns-in_err-size-2-clause-reads : goal.returns-in_err-size-2-clause-reads
returns-in_err-size-2-clause-reads c =
    let word = onwards (in_utf8 c.args.text.now _ _ c.in-Some.ensures.cases.0 c.if-first-eq123.false) c.in_ok-after_word.ensures (λ _. never_avoids _) in
    let space = onwards word c.in_ok-after_space.ensures (λ _. never_avoids _) in
    let opened = onwards space c.in_ok-after_open.ensures (λ _. never_avoids _) in
    passes_on _ _ c.from_residual-in_err-size-2.result _ c.from_residual-in_err-size-2.ensures.1 (ends_at never never _ opened c.in_err-size-2.ensures.reads (λ _. never_avoids _) (λ size. is_viable _))

pub returns-clause-reads : goal.returns-clause-reads
returns-clause-reads c =
    let word = onwards (in_utf8 c.args.text.now _ _ c.in-Some.ensures.cases.0 c.if-first-eq123.false) c.in_ok-after_word.ensures (λ _. never_avoids _) in
    let space = onwards word c.in_ok-after_space.ensures (λ _. never_avoids _) in
    let opened = onwards space c.in_ok-after_open.ensures (λ _. never_avoids _) in
    (onwards opened c.in_ok-size-2.ensures.reads (λ _. never_avoids _)).reads never _ _ (is_reads _ _)
