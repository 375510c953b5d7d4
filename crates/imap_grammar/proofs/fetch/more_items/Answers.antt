use Rattle.std.specs.Prelude.{Err}
use Rattle.std.proofs.Common.{true, refl, ap}
use Rattle.std.proofs.lemmas.Bool.{not-true, not-false}
use Rattle.imap_words.specs.Reading.{never}
use Rattle.imap_words.proofs.Going.{ends_at, passes_on, never_avoids}
use Rattle.imap_words.proofs.Leaving.{here, leaves_all, leaves_then}
use Rattle.imap_grammar.specs.FetchParts.{is_read, IsListed}
use Rattle.imap_words.proofs.InLine.{first_joins, exit_more}
use Rattle.imap_grammar.proofs.CommandSteps.{hands_any, bare_viable}
use Rattle.imap_grammar.proofs.FetchEnds.{step_left, step_shortens}
use Rattle.imap_grammar.proofs.ItemSteps.{rest_stops, not_listed, items_close, items_next}
use Rattle.imap_grammar.proofs.fetch.more_items.Goals as goal

pub loop-separator-init : goal.loop-separator-init
loop-separator-init c = record { so = λ utf8. leaves_all _ _; joins = λ none. none }

pub returns-then-not-so_far-clause-reads : goal.returns-then-not-so_far-clause-reads
returns-then-not-so_far-clause-reads c = λ utf8. hands_any utf8 _ (not_listed utf8 c.loop-separator.so_far (c.loop-separator.invariant.so utf8) (not-true _ c.if-not-so_far.true)) c.whole.ensures.reads

pub returns-in_err-after_items-clause-reads : goal.returns-in_err-after_items-clause-reads
returns-in_err-after_items-clause-reads c = λ utf8.
    let at = items_close utf8 c.loop-separator.so_far (c.loop-separator.invariant.so utf8) (not-false _ c.if-not-so_far.false) _ _ c.in-Some.ensures.cases.0 c.if-separator-ne32.true in
    passes_on _ _ c.from_residual.result _ c.from_residual.ensures.1 (ends_at never never _ (here at) c.in_err-after_items.ensures (λ _. never_avoids _) (λ _. bare_viable _))

pub returns-then-separator-ne32-clause-reads : goal.returns-then-separator-ne32-clause-reads
returns-then-separator-ne32-clause-reads c = λ utf8.
    let at = items_close utf8 c.loop-separator.so_far (c.loop-separator.invariant.so utf8) (not-false _ c.if-not-so_far.false) _ _ c.in-Some.ensures.cases.0 c.if-separator-ne32.true in
    hands_any utf8 _ (leaves_then at c.in_ok-after_items.ensures (λ _. never_avoids _)) c.whole-then-separator-ne32.ensures.reads

pub returns-in_err-step-clause-reads : goal.returns-in_err-step-clause-reads
returns-in_err-step-clause-reads c = λ utf8.
    let at = items_next utf8 c.loop-separator.so_far (c.loop-separator.invariant.so utf8) (not-false _ c.if-not-so_far.false) _ _ c.in-Some.ensures.cases.0 c.if-separator-ne32.false in
    passes_on _ _ c.from_residual-in_err-step.result _ c.from_residual-in_err-step.ensures.1 ((here at).stops never _ (c.in_err-step.ensures.reads utf8))

pub returns-in-Awaits-clause-reads : goal.returns-in-Awaits-clause-reads
returns-in-Awaits-clause-reads c = λ utf8.
    let at = items_next utf8 c.loop-separator.so_far (c.loop-separator.invariant.so utf8) (not-false _ c.if-not-so_far.false) _ _ c.in-Some.ensures.cases.0 c.if-separator-ne32.false in
    step_left utf8 c.in_ok-step.following.now at c.in-Awaits.is (c.in_ok-step.ensures.reads utf8)

pub loop-separator-smaller : goal.loop-separator-smaller
loop-separator-smaller c = step_shortens true (IsListed true c.loop-separator.so_far) c.in_ok-step.step c.in_ok-step.following.now (c.in_ok-step.ensures.reads true) c.in-Some.ensures.cases.0

pub loop-separator-preserved : goal.loop-separator-preserved
loop-separator-preserved c = record {
  so = λ utf8.
      let at = items_next utf8 c.loop-separator.so_far (c.loop-separator.invariant.so utf8) (not-false _ c.if-not-so_far.false) _ _ c.in-Some.ensures.cases.0 c.if-separator-ne32.false in
      step_left utf8 c.in_ok-step.following.now at c.in-Read.is (c.in_ok-step.ensures.reads utf8);
  joins = λ none. c.loop-separator.invariant.joins (first_joins 32 _ _ _ c.in-Some.ensures.cases.0 c.if-separator-ne32.false refl (c.in_ok-step.ensures.passes (ap is_read c.in-Read.is) none));
}

pub returns-clause-reads : goal.returns-clause-reads
returns-clause-reads c = λ utf8. rest_stops utf8 c.loop-separator.so_far (c.loop-separator.invariant.so utf8) c.in_default.ensures.cases

pub returns-in_err-step-clause-more : goal.returns-in_err-step-clause-more
returns-in_err-step-clause-more c = λ e.
    let more = exit_more c.from_residual-in_err-step.result _ c.from_residual-in_err-step.ensures.1 e in
    c.loop-separator.invariant.joins (first_joins 32 _ _ _ c.in-Some.ensures.cases.0 c.if-separator-ne32.false refl (c.in_err-step.ensures.more (ap Err more)))
