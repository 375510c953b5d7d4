use Rattle.imap_words.specs.Keywords.{IsWordOf}
use Rattle.std.proofs.Common.{false, refl, ◌∙◌, sym, subst}
use Rattle.imap_words.specs.Reading.{never, StopsReading}
use Rattle.imap_words.proofs.Going.{ends_at, passes_on}
use Rattle.imap_words.proofs.Leaving.{here, leaves_then}
use Rattle.imap_grammar.specs.Fetching.{after_section_word, text_words}
use Rattle.imap_words.proofs.InLine.{octet_joins, exit_more}
use Rattle.imap_grammar.proofs.LineEnds.{text_joins, steps_pass, text_open}
use Rattle.imap_grammar.proofs.FetchEnds.{steps_on}
use Rattle.imap_grammar.proofs.SectionSteps.{after_text_avoids, after_text_viable, bracketed_stops, whole_section, number_section, text_section, section_stops, section_left}
use Rattle.imap_grammar.proofs.fetch.section.Goals as goal

pub returns-in_err-after_open-clause-reads : goal.returns-in_err-after_open-clause-reads
returns-in_err-after_open-clause-reads c = λ utf8. passes_on _ _ c.from_residual.result _ c.from_residual.ensures.1 (section_stops utf8 c.args.fetching c.args.peek c.args.text.now _ c.in_err-after_open.ensures)

pub returns-in_default-clause-reads : goal.returns-in_default-clause-reads
returns-in_default-clause-reads c = λ utf8.
    let at = section_left utf8 c.args.fetching c.args.peek c.args.text.now _ _ c.new.ensures c.in_ok-after_open.ensures in
    bracketed_stops utf8 c.args.fetching c.args.peek _ at (c.in_default.ensures.cases)

pub returns-then-first-eq93-clause-reads : goal.returns-then-first-eq93-clause-reads
returns-then-first-eq93-clause-reads c = λ utf8.
    let at = section_left utf8 c.args.fetching c.args.peek c.args.text.now _ _ c.new.ensures c.in_ok-after_open.ensures in
    steps_on utf8 _ (whole_section utf8 c.args.fetching c.args.peek _ at _ _ c.in-Some.ensures.cases.0 c.if-first-eq93.true) (c.section_end.ensures.reads utf8)

pub returns-then-is_digit-clause-reads : goal.returns-then-is_digit-clause-reads
returns-then-is_digit-clause-reads c = λ utf8.
    let at = section_left utf8 c.args.fetching c.args.peek c.args.text.now _ _ c.new.ensures c.in_ok-after_open.ensures in
    steps_on utf8 _ (number_section utf8 c.args.fetching c.args.peek _ at _ _ c.in-Some.ensures.cases.0 c.if-first-eq93.false (sym c.is_digit.ensures ∙ c.if-is_digit.true)) (c.numbered.ensures.reads utf8)

pub returns-in_err-word-clause-reads : goal.returns-in_err-word-clause-reads
returns-in_err-word-clause-reads c = λ utf8.
    let at = section_left utf8 c.args.fetching c.args.peek c.args.text.now _ _ c.new.ensures c.in_ok-after_open.ensures in
    let words = text_section utf8 c.args.fetching c.args.peek _ at _ _ c.in-Some.ensures.cases.0 c.if-first-eq93.false (sym c.is_digit.ensures ∙ c.if-is_digit.false) in
    passes_on _ _ c.from_residual-in_err-word.result _ c.from_residual-in_err-word.ensures.1
    (ends_at after_section_word never _ (here words) c.in_err-word.ensures (after_text_avoids utf8 c.args.fetching c.args.peek _) (after_text_viable utf8 c.args.fetching c.args.peek _))

pub returns-clause-reads : goal.returns-clause-reads
returns-clause-reads c = λ utf8.
    let at = section_left utf8 c.args.fetching c.args.peek c.args.text.now _ _ c.new.ensures c.in_ok-after_open.ensures in
    let words = text_section utf8 c.args.fetching c.args.peek _ at _ _ c.in-Some.ensures.cases.0 c.if-first-eq93.false (sym c.is_digit.ensures ∙ c.if-is_digit.false) in
    steps_on utf8 _ (leaves_then words c.in_ok-word.ensures (after_text_avoids utf8 c.args.fetching c.args.peek _)) (c.after_text.ensures.reads utf8)

pub returns-then-first-eq93-clause-passes : goal.returns-then-first-eq93-clause-passes
returns-then-first-eq93-clause-passes c = steps_pass _ _ _ (octet_joins 91 _ _ c.in_ok-after_open.ensures refl) c.section_end.ensures.passes

pub returns-then-is_digit-clause-passes : goal.returns-then-is_digit-clause-passes
returns-then-is_digit-clause-passes c = steps_pass _ _ _ (octet_joins 91 _ _ c.in_ok-after_open.ensures refl) c.numbered.ensures.passes

pub returns-clause-passes : goal.returns-clause-passes
returns-clause-passes c = steps_pass _ _ _ (λ none. octet_joins 91 _ _ c.in_ok-after_open.ensures refl (text_joins false _ _ _ c.in_ok-word.ensures none)) c.after_text.ensures.passes

pub returns-in_err-word-clause-more : goal.returns-in_err-word-clause-more
returns-in_err-word-clause-more c = λ e.
    let more = exit_more c.from_residual-in_err-word.result _ c.from_residual-in_err-word.ensures.1 e in
    octet_joins 91 _ _ c.in_ok-after_open.ensures refl
    (text_open false c.in_ok-after_open.after_open.now (subst (λ z. StopsReading (IsWordOf (text_words false)) after_section_word c.in_ok-after_open.after_open.now z) more c.in_err-word.ensures))

pub returns-clause-more : goal.returns-clause-more
returns-clause-more c = λ e. octet_joins 91 _ _ c.in_ok-after_open.ensures refl (text_joins false _ _ _ c.in_ok-word.ensures (c.after_text.ensures.more e))
