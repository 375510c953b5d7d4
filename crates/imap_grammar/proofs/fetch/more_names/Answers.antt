use Rattle.std.proofs.Common.{refl, ap}
use Rattle.std.specs.Prelude.{Err}
use Rattle.imap_words.specs.Strings.{head_value}
use Rattle.imap_words.specs.Reading.{never}
use Rattle.imap_words.proofs.Going.{ends_at, passes_on, never_avoids}
use Rattle.imap_words.proofs.Leaving.{here, leaves_all, leaves_then}
use Rattle.imap_grammar.specs.declared.command.SectionPart.TheVariants as part
use Rattle.imap_words.proofs.InLine.{exit_more, first_joins, octet_joins, name_joins}
use Rattle.imap_grammar.proofs.LineEnds.{steps_pass}
use Rattle.imap_grammar.proofs.FetchEnds.{memory_on, steps_on, end_viable}
use Rattle.imap_grammar.proofs.NameListSteps.{names_stop, name_stops, name_read, name_awaits, names_close, names_next, names_await, names_put}
use Rattle.imap_grammar.proofs.fetch.more_names.Goals as goal

pub loop-separator-init : goal.loop-separator-init
loop-separator-init c = record { so = λ utf8. leaves_all _ _; joins = λ none. none }

pub returns-in_err-after_names-clause-reads : goal.returns-in_err-after_names-clause-reads
returns-in_err-after_names-clause-reads c = λ utf8.
    let n = c.loop-separator.named in
    let at = names_close utf8 n n.names (c.loop-separator.invariant.so utf8) _ _ c.in-Some.ensures.cases.0 c.if-separator-ne32.true in
    passes_on _ _ c.from_residual.result _ c.from_residual.ensures.1 (ends_at never never _ (here at) c.in_err-after_names.ensures (λ _. never_avoids _) (λ _. end_viable utf8 n.fetching n.peek n.path (part.Fields n.names n.negated)))

pub returns-then-separator-ne32-clause-reads : goal.returns-then-separator-ne32-clause-reads
returns-then-separator-ne32-clause-reads c = λ utf8.
    let n = c.loop-separator.named in
    let at = names_close utf8 n n.names (c.loop-separator.invariant.so utf8) _ _ c.in-Some.ensures.cases.0 c.if-separator-ne32.true in
    steps_on utf8 _ (leaves_then at c.in_ok-after_names.ensures (λ _. never_avoids _)) (c.names_end.ensures.reads utf8)

pub returns-in_err-head-clause-reads : goal.returns-in_err-head-clause-reads
returns-in_err-head-clause-reads c = λ utf8.
    let n = c.loop-separator.named in
    let at = names_next utf8 n n.names (c.loop-separator.invariant.so utf8) _ _ c.in-Some.ensures.cases.0 c.if-separator-ne32.false in
    passes_on _ _ c.from_residual-in_err-head.result _ c.from_residual-in_err-head.ensures.1 (name_stops utf8 n n.names at _ c.in_err-head.ensures.reads)

pub returns-in_err-head-clause-more : goal.returns-in_err-head-clause-more
returns-in_err-head-clause-more c = λ e.
    let more = exit_more c.from_residual-in_err-head.result _ c.from_residual-in_err-head.ensures.1 e in
    c.loop-separator.invariant.joins (first_joins 32 _ _ _ c.in-Some.ensures.cases.0 c.if-separator-ne32.false refl (c.in_err-head.ensures.more (ap Err more)))

pub returns-in-Literal-clause-reads : goal.returns-in-Literal-clause-reads
returns-in-Literal-clause-reads c = λ utf8.
    let n = c.loop-separator.named in
    let at = names_next utf8 n n.names (c.loop-separator.invariant.so utf8) _ _ c.in-Some.ensures.cases.0 c.if-separator-ne32.false in
    names_await utf8 n _ (name_awaits utf8 n n.names at _ _ _ (ap head_value c.in-Literal.is) c.in_ok-head.ensures.reads)

pub returns-in_err-named-in-Whole-clause-reads : goal.returns-in_err-named-in-Whole-clause-reads
returns-in_err-named-in-Whole-clause-reads c = λ utf8. memory_on _ _ c.from_residual-in_err-named-in-Whole.result _ c.from_residual-in_err-named-in-Whole.ensures.1 c.in_err-named-in-Whole.ensures tt

pub loop-separator-preserved : goal.loop-separator-preserved
loop-separator-preserved c = record {
  so = λ utf8.
      let n = c.loop-separator.named in
      let at = names_next utf8 n n.names (c.loop-separator.invariant.so utf8) _ _ c.in-Some.ensures.cases.0 c.if-separator-ne32.false in
      names_put utf8 n _ c.in_ok-named-in-Whole.ensures (name_read utf8 n n.names at _ _ _ (ap head_value c.in-Whole.is) c.in_ok-head.ensures.reads);
  joins = λ none. c.loop-separator.invariant.joins (first_joins 32 _ _ _ c.in-Some.ensures.cases.0 c.if-separator-ne32.false refl (name_joins _ _ _ _ c.in_ok-head.ensures.reads c.in-Whole.is none));
}

pub returns-clause-reads : goal.returns-clause-reads
returns-clause-reads c = λ utf8. names_stop utf8 c.loop-separator.named c.loop-separator.named.names (c.loop-separator.invariant.so utf8) c.in_default.ensures.cases

pub returns-then-separator-ne32-clause-passes : goal.returns-then-separator-ne32-clause-passes
returns-then-separator-ne32-clause-passes c = steps_pass _ _ _ (λ none. c.loop-separator.invariant.joins (octet_joins 41 _ _ c.in_ok-after_names.ensures refl none)) c.names_end.ensures.passes
