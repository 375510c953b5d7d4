use Rattle.std.proofs.Common.{[], ap, refl}
use Rattle.imap_words.specs.Reading.{never}
use Rattle.imap_words.specs.Strings.{head_value}
use Rattle.imap_words.proofs.Going.{begins, ends_at, passes_on, never_avoids}
use Rattle.imap_words.proofs.Leaving.{here}
use Rattle.imap_grammar.specs.FetchParts.{AreNames}
use Rattle.imap_words.proofs.InLine.{octet_joins, name_joins}
use Rattle.imap_grammar.proofs.LineEnds.{steps_pass}
use Rattle.imap_grammar.proofs.FetchEnds.{memory_on, steps_on}
use Rattle.imap_grammar.proofs.NameListSteps.{nameless, name_viable, name_stops, name_read, name_awaits, names_await, names_put, list_viable, list_left, first_left}
use Rattle.imap_grammar.proofs.fetch.field_names.Goals as goal

pub returns-in_err-after_space-clause-reads : goal.returns-in_err-after_space-clause-reads
returns-in_err-after_space-clause-reads c = λ utf8.
    let b = c.args.begun in
    passes_on _ _ c.from_residual.result _ c.from_residual.ensures.1
    (ends_at never never _ (begins (AreNames utf8 b.fetching b.peek b.path c.args.negated) c.args.text.now) c.in_err-after_space.ensures (λ _. never_avoids _) (λ _. list_viable utf8 b.fetching b.peek b.path c.args.negated))

pub returns-in_err-after_open-clause-reads : goal.returns-in_err-after_open-clause-reads
returns-in_err-after_open-clause-reads c = λ utf8.
    let b = c.args.begun in
    let at = list_left utf8 b.fetching b.peek b.path c.args.negated c.args.text.now _ c.in_ok-after_space.ensures in
    passes_on _ _ c.from_residual-in_err-after_open.result _ c.from_residual-in_err-after_open.ensures.1
    (ends_at never never _ (here at) c.in_err-after_open.ensures (λ _. never_avoids _) (λ _. name_viable utf8 (nameless utf8 b.fetching b.peek b.path c.args.negated []) []))

pub returns-in_err-head-clause-reads : goal.returns-in_err-head-clause-reads
returns-in_err-head-clause-reads c = λ utf8.
    let b = c.args.begun in
    let n = nameless utf8 b.fetching b.peek b.path c.args.negated [] in
    let at = first_left utf8 b.fetching b.peek b.path c.args.negated c.args.text.now _ c.in_ok-after_space.ensures _ [] refl c.in_ok-after_open.ensures in
    passes_on _ _ c.from_residual-in_err-head.result _ c.from_residual-in_err-head.ensures.1 (name_stops utf8 n n.names at _ c.in_err-head.ensures.reads)

pub returns-in-Literal-clause-reads : goal.returns-in-Literal-clause-reads
returns-in-Literal-clause-reads c = λ utf8.
    let b = c.args.begun in
    let n = nameless utf8 b.fetching b.peek b.path c.args.negated c.new.result in
    let at = first_left utf8 b.fetching b.peek b.path c.args.negated c.args.text.now _ c.in_ok-after_space.ensures _ _ c.new.ensures c.in_ok-after_open.ensures in
    names_await utf8 n _ (name_awaits utf8 n n.names at _ _ _ (ap head_value c.in-Literal.is) c.in_ok-head.ensures.reads)

pub returns-in_err-first-in-Whole-clause-reads : goal.returns-in_err-first-in-Whole-clause-reads
returns-in_err-first-in-Whole-clause-reads c = λ utf8. memory_on _ _ c.from_residual-in_err-first-in-Whole.result _ c.from_residual-in_err-first-in-Whole.ensures.1 c.in_err-first-in-Whole.ensures tt

pub returns-in_ok-first-in-Whole-clause-reads : goal.returns-in_ok-first-in-Whole-clause-reads
returns-in_ok-first-in-Whole-clause-reads c = λ utf8.
    let b = c.args.begun in
    let n = nameless utf8 b.fetching b.peek b.path c.args.negated c.new.result in
    let at = first_left utf8 b.fetching b.peek b.path c.args.negated c.args.text.now _ c.in_ok-after_space.ensures _ _ c.new.ensures c.in_ok-after_open.ensures in
    steps_on utf8 _ (names_put utf8 n _ c.in_ok-first-in-Whole.ensures (name_read utf8 n n.names at _ _ _ (ap head_value c.in-Whole.is) c.in_ok-head.ensures.reads)) (c.more_names.ensures.reads utf8)

pub returns-in_ok-first-in-Whole-clause-passes : goal.returns-in_ok-first-in-Whole-clause-passes
returns-in_ok-first-in-Whole-clause-passes c =
    steps_pass _ _ _ (λ none. octet_joins 32 _ _ c.in_ok-after_space.ensures refl (octet_joins 40 _ _ c.in_ok-after_open.ensures refl (name_joins _ _ _ _ c.in_ok-head.ensures.reads c.in-Whole.is none))) c.more_names.ensures.passes

pub returns-in_ok-first-in-Whole-clause-more : goal.returns-in_ok-first-in-Whole-clause-more
returns-in_ok-first-in-Whole-clause-more c = λ e.
    octet_joins 32 _ _ c.in_ok-after_space.ensures refl (octet_joins 40 _ _ c.in_ok-after_open.ensures refl (name_joins _ _ _ _ c.in_ok-head.ensures.reads c.in-Whole.is (c.more_names.ensures.more e)))
