use Rattle.imap_words.proofs.Going.{passes_on}
use Rattle.imap_grammar.proofs.Optional.{maybe_more, missing, part_stops, space_stops, spaced_reads}
use Rattle.imap_grammar.specs.Flags.{IsFlagList, HasFlags}
use Rattle.imap_grammar.proofs.AppendSteps.{list_only}
use Rattle.imap_grammar.proofs.append.maybe_flags.Goals as goal

pub returns-in_default : goal.returns-in_default
returns-in_default c = maybe_more 0 (HasFlags IsFlagList) (λ n. n) 40 list_only c.args.text.now c.in_default.ensures.cases

pub returns-then-first-ne40 : goal.returns-then-first-ne40
returns-then-first-ne40 c = missing 0 (HasFlags IsFlagList) (λ n. n) 40 list_only c.args.text.now _ _ c.in-Some.ensures.cases.0 c.if-first-ne40.true

pub returns-in_err-flags : goal.returns-in_err-flags
returns-in_err-flags c =
    passes_on _ _ c.from_residual.result _ c.from_residual.ensures.1 (part_stops 0 (HasFlags IsFlagList) (λ n. n) 40 list_only c.args.text.now _ _ c.in-Some.ensures.cases.0 c.if-first-ne40.false _ c.in_err-flags.ensures)

pub returns-in_err-rest : goal.returns-in_err-rest
returns-in_err-rest c =
    passes_on _ _ c.from_residual-in_err-rest.result _ c.from_residual-in_err-rest.ensures.1
    (space_stops 0 (HasFlags IsFlagList) (λ n. n) 40 list_only c.args.text.now _ _ c.in-Some.ensures.cases.0 c.if-first-ne40.false _ _ c.in_ok-flags.ensures _ c.in_err-rest.ensures)

pub returns : goal.returns
returns c = spaced_reads 0 (HasFlags IsFlagList) (λ n. n) 40 list_only c.args.text.now _ _ c.in-Some.ensures.cases.0 c.if-first-ne40.false _ _ c.in_ok-flags.ensures _ c.in_ok-rest.ensures
