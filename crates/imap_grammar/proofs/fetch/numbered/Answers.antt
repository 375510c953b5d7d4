use Rattle.imap_words.specs.Keywords.{IsWordOf}
use Rattle.std.proofs.Common.{true, refl, ◌∙◌, sym, subst}
use Rattle.imap_words.specs.Reading.{never, always, StopsReading}
use Rattle.imap_words.specs.Tokens.{is_digit, IsNonZero}
use Rattle.imap_words.proofs.Going.{begins, ends_at, passes_on}
use Rattle.imap_words.proofs.Leaving.{here, leaves_all, leaves_then}
use Rattle.imap_grammar.specs.Fetching.{after_section_word, text_words}
use Rattle.imap_grammar.specs.FetchParts.{AreNumbers}
use Rattle.imap_words.proofs.InLine.{first_joins, exit_more, no_octet}
use Rattle.imap_grammar.proofs.LineEnds.{non_zero_joins, text_joins, steps_pass, text_open, non_zero_open}
use Rattle.imap_grammar.proofs.FetchEnds.{memory_on, steps_on}
use Rattle.imap_grammar.proofs.SectionSteps.{after_text_avoids, after_text_viable, numbers_stop, numbers_avoid, numbers_follow, dotted_stops, numbers_close, numbers_dot, next_number, next_text, number_put}
use Rattle.imap_grammar.proofs.fetch.numbered.Goals as goal

pub returns-in_err-first-clause-reads : goal.returns-in_err-first-clause-reads
returns-in_err-first-clause-reads c = λ utf8.
    let b = c.args.begun in
    passes_on _ _ c.from_residual.result _ c.from_residual.ensures.1
    (ends_at (always is_digit) never _ (begins (AreNumbers utf8 b.fetching b.peek b.path) c.args.text.now) c.in_err-first.ensures (numbers_avoid utf8 b.fetching b.peek b.path) (numbers_follow utf8 b.fetching b.peek b.path))

pub returns-in_err-so_far-clause-reads : goal.returns-in_err-so_far-clause-reads
returns-in_err-so_far-clause-reads c = λ utf8. memory_on _ _ c.from_residual-in_err-so_far.result _ c.from_residual-in_err-so_far.ensures.1 c.in_err-so_far.ensures tt

pub loop-separator-init : goal.loop-separator-init
loop-separator-init c = record {
  so = λ utf8.
      let b = c.args.begun in
      number_put utf8 b _ c.in_ok-so_far.ensures (leaves_then (leaves_all (AreNumbers utf8 b.fetching b.peek b.path) c.args.text.now) c.in_ok-first.ensures (numbers_avoid utf8 b.fetching b.peek b.path));
  joins = non_zero_joins _ _ _ c.in_ok-first.ensures;
}

pub returns-then-separator-ne46-clause-reads : goal.returns-then-separator-ne46-clause-reads
returns-then-separator-ne46-clause-reads c = λ utf8.
    let b = c.loop-separator.so_far in
    steps_on utf8 _ (numbers_close utf8 b.fetching b.peek b.path (c.loop-separator.invariant.so utf8) _ _ c.in-Some.ensures.cases.0 c.if-separator-ne46.true) (c.section_end.ensures.reads utf8)

pub returns-in_default-split_first-clause-reads : goal.returns-in_default-split_first-clause-reads
returns-in_default-split_first-clause-reads c = λ utf8.
    let b = c.loop-separator.so_far in
    let at = numbers_dot utf8 b.fetching b.peek b.path (c.loop-separator.invariant.so utf8) _ _ c.in-Some.ensures.cases.0 c.if-separator-ne46.false in
    dotted_stops utf8 b.fetching b.peek b.path at (c.in_default-split_first.ensures.cases)

pub returns-in_err-word-clause-reads : goal.returns-in_err-word-clause-reads
returns-in_err-word-clause-reads c = λ utf8.
    let b = c.loop-separator.so_far in
    let dot = numbers_dot utf8 b.fetching b.peek b.path (c.loop-separator.invariant.so utf8) _ _ c.in-Some.ensures.cases.0 c.if-separator-ne46.false in
    let at = next_text utf8 b.fetching b.peek b.path dot _ _ c.in-Some-split_first.ensures.cases.0 (sym c.is_digit.ensures ∙ c.if-not-is_digit.true) in
    passes_on _ _ c.from_residual-in_err-word.result _ c.from_residual-in_err-word.ensures.1
    (ends_at after_section_word never _ (here at) c.in_err-word.ensures (after_text_avoids utf8 b.fetching b.peek b.path) (after_text_viable utf8 b.fetching b.peek b.path))

pub returns-then-not-is_digit-clause-reads : goal.returns-then-not-is_digit-clause-reads
returns-then-not-is_digit-clause-reads c = λ utf8.
    let b = c.loop-separator.so_far in
    let dot = numbers_dot utf8 b.fetching b.peek b.path (c.loop-separator.invariant.so utf8) _ _ c.in-Some.ensures.cases.0 c.if-separator-ne46.false in
    let at = next_text utf8 b.fetching b.peek b.path dot _ _ c.in-Some-split_first.ensures.cases.0 (sym c.is_digit.ensures ∙ c.if-not-is_digit.true) in
    steps_on utf8 _ (leaves_then at c.in_ok-word.ensures (after_text_avoids utf8 b.fetching b.peek b.path)) (c.after_text.ensures.reads utf8)

pub returns-in_err-number-clause-reads : goal.returns-in_err-number-clause-reads
returns-in_err-number-clause-reads c = λ utf8.
    let b = c.loop-separator.so_far in
    let dot = numbers_dot utf8 b.fetching b.peek b.path (c.loop-separator.invariant.so utf8) _ _ c.in-Some.ensures.cases.0 c.if-separator-ne46.false in
    let at = next_number utf8 b.fetching b.peek b.path dot _ _ c.in-Some-split_first.ensures.cases.0 (sym c.is_digit.ensures ∙ c.if-not-is_digit.false) in
    passes_on _ _ c.from_residual-in_err-number.result _ c.from_residual-in_err-number.ensures.1
    (ends_at (always is_digit) never _ (here at) c.in_err-number.ensures (numbers_avoid utf8 b.fetching b.peek b.path) (numbers_follow utf8 b.fetching b.peek b.path))

pub returns-in_err-so_far-2-clause-reads : goal.returns-in_err-so_far-2-clause-reads
returns-in_err-so_far-2-clause-reads c = λ utf8. memory_on _ _ c.from_residual-in_err-so_far-2.result _ c.from_residual-in_err-so_far-2.ensures.1 c.in_err-so_far-2.ensures tt

pub loop-separator-preserved : goal.loop-separator-preserved
loop-separator-preserved c = record {
  so = λ utf8.
      let b = c.loop-separator.so_far in
      let dot = numbers_dot utf8 b.fetching b.peek b.path (c.loop-separator.invariant.so utf8) _ _ c.in-Some.ensures.cases.0 c.if-separator-ne46.false in
      let at = next_number utf8 b.fetching b.peek b.path dot _ _ c.in-Some-split_first.ensures.cases.0 (sym c.is_digit.ensures ∙ c.if-not-is_digit.false) in
      number_put utf8 b _ c.in_ok-so_far-2.ensures (leaves_then at c.in_ok-number.ensures (numbers_avoid utf8 b.fetching b.peek b.path));
  joins = λ none. c.loop-separator.invariant.joins (first_joins 46 _ _ _ c.in-Some.ensures.cases.0 c.if-separator-ne46.false refl (non_zero_joins _ _ _ c.in_ok-number.ensures none));
}

pub returns-clause-reads : goal.returns-clause-reads
returns-clause-reads c = λ utf8.
    let b = c.loop-separator.so_far in
    numbers_stop utf8 b.fetching b.peek b.path (c.loop-separator.invariant.so utf8) (c.in_default.ensures.cases)

pub returns-then-separator-ne46-clause-passes : goal.returns-then-separator-ne46-clause-passes
returns-then-separator-ne46-clause-passes c = steps_pass _ _ _ c.loop-separator.invariant.joins c.section_end.ensures.passes

pub returns-then-not-is_digit-clause-passes : goal.returns-then-not-is_digit-clause-passes
returns-then-not-is_digit-clause-passes c =
    steps_pass _ _ _ (λ none. c.loop-separator.invariant.joins (first_joins 46 _ _ _ c.in-Some.ensures.cases.0 c.if-separator-ne46.false refl (text_joins true _ _ _ c.in_ok-word.ensures none))) c.after_text.ensures.passes

pub returns-in_default-split_first-clause-more : goal.returns-in_default-split_first-clause-more
returns-in_default-split_first-clause-more c = λ e.
    c.loop-separator.invariant.joins (first_joins 46 _ _ _ c.in-Some.ensures.cases.0 c.if-separator-ne46.false refl (no_octet _ c.in_default-split_first.ensures.cases))

pub returns-in_err-word-clause-more : goal.returns-in_err-word-clause-more
returns-in_err-word-clause-more c = λ e.
    let more = exit_more c.from_residual-in_err-word.result _ c.from_residual-in_err-word.ensures.1 e in
    c.loop-separator.invariant.joins
    (first_joins 46 _ _ _ c.in-Some.ensures.cases.0 c.if-separator-ne46.false refl (text_open true c.in-Some.others.now (subst (λ z. StopsReading (IsWordOf (text_words true)) after_section_word c.in-Some.others.now z) more c.in_err-word.ensures)))

pub returns-then-not-is_digit-clause-more : goal.returns-then-not-is_digit-clause-more
returns-then-not-is_digit-clause-more c = λ e.
    c.loop-separator.invariant.joins (first_joins 46 _ _ _ c.in-Some.ensures.cases.0 c.if-separator-ne46.false refl (text_joins true _ _ _ c.in_ok-word.ensures (c.after_text.ensures.more e)))

pub returns-in_err-number-clause-more : goal.returns-in_err-number-clause-more
returns-in_err-number-clause-more c = λ e.
    let more = exit_more c.from_residual-in_err-number.result _ c.from_residual-in_err-number.ensures.1 e in
    c.loop-separator.invariant.joins
    (first_joins 46 _ _ _ c.in-Some.ensures.cases.0 c.if-separator-ne46.false refl (non_zero_open c.in-Some.others.now (subst (λ z. StopsReading IsNonZero (always is_digit) c.in-Some.others.now z) more c.in_err-number.ensures)))
