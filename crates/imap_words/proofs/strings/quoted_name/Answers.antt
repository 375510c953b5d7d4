use Rattle.std.proofs.Common.{[], ap, subst, sym, refl, ◌∙◌}
use Rattle.std.specs.List.{list_all}
use Rattle.imap_words.specs.Reading.{never}
use Rattle.imap_words.specs.Tokens.{is_name_char}
use Rattle.imap_words.specs.Going.{Continues}
use Rattle.imap_words.specs.Strings.{IsQuotedName}
use Rattle.imap_words.proofs.Going.{ends_at, onwards, passes_on, never_avoids}
use Rattle.imap_words.proofs.NameSteps.{IsRestName, empty_is, not_empty_is, name_begins, rest_name_viable, empty_fails, no_name_fails, name_ends, name_char_stops, name_char_reads, name_open}
use Rattle.imap_words.proofs.strings.quoted_name.Goals as goal

pub returns-in_err-rest : goal.returns-in_err-rest
returns-in_err-rest c =
    passes_on _ _ c.from_residual.result _ c.from_residual.ensures.1 (ends_at never never _ (name_begins c.args.text.now) c.in_err-rest.ensures (λ _. never_avoids _) (λ _. rest_name_viable [] refl))

pub loop-first-init : goal.loop-first-init
loop-first-init c = (
  ap (list_all is_name_char) c.new-value.ensures,
  subst (λ z. Continues IsQuotedName c.args.text.now (IsRestName z) c.in_ok-rest.rest.now) (sym c.new-value.ensures) (onwards (name_begins c.args.text.now) c.in_ok-rest.ensures (λ _. never_avoids _)),
)

pub returns-then-is_empty : goal.returns-then-is_empty
returns-then-is_empty c =
    empty_fails c.loop-first.value c.loop-first.invariant.0 c.args.text.now _ _ _ c.loop-first.invariant.1 c.in-Some.ensures.cases.0 c.if-first-eq34.true (empty_is c.loop-first.value c.is_empty.result c.is_empty.ensures c.if-is_empty.true)

pub returns-then-first-eq34 : goal.returns-then-first-eq34
returns-then-first-eq34 c =
    name_ends c.loop-first.value c.loop-first.invariant.0 c.args.text.now _ _ _ c.loop-first.invariant.1 c.in-Some.ensures.cases.0 c.if-first-eq34.true (not_empty_is c.loop-first.value c.is_empty.result c.is_empty.ensures c.if-is_empty.false)

pub returns-then-not-passes : goal.returns-then-not-passes
returns-then-not-passes c =
    no_name_fails c.loop-first.value c.loop-first.invariant.0 c.args.text.now _ _ _ c.loop-first.invariant.1 c.in-Some.ensures.cases.0 c.if-first-eq34.false (sym c.passes.ensures ∙ c.if-not-passes.true)

pub returns-in_err-rest-2 : goal.returns-in_err-rest-2
returns-in_err-rest-2 c =
    passes_on _ _ c.from_residual-in_err-rest-2.result _ c.from_residual-in_err-rest-2.ensures.1
    (name_char_stops c.loop-first.value c.loop-first.invariant.0 c.args.text.now _ _ _ _ c.loop-first.invariant.1 c.in-Some.ensures.cases.0 c.if-first-eq34.false (sym c.passes.ensures ∙ c.if-not-passes.false) c.in_err-rest-2.ensures)

pub loop-first-preserved : goal.loop-first-preserved
loop-first-preserved c =
    name_char_reads c.loop-first.value c.loop-first.invariant.0 c.args.text.now _ _ _ _ _ c.loop-first.invariant.1 c.in-Some.ensures.cases.0 c.if-first-eq34.false (sym c.passes.ensures ∙ c.if-not-passes.false) c.in_ok-rest-2.ensures

pub returns : goal.returns
returns c = name_open c.loop-first.value c.loop-first.invariant.0 c.args.text.now _ c.loop-first.invariant.1 c.in_default.ensures.cases
