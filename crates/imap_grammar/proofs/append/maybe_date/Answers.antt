use Rattle.std.proofs.Common.{None, Some, subst, sym}
use Rattle.imap_words.specs.Reading.{Reads, always}
use Rattle.imap_words.specs.Dates.{IsDateTime}
use Rattle.imap_words.proofs.Going.{passes_on}
use Rattle.imap_grammar.proofs.Optional.{maybe_more, missing, part_stops, space_stops, spaced_reads}
use Rattle.imap_grammar.specs.Commands.{at_octet, IsDateAndSpace}
use Rattle.imap_grammar.proofs.AppendSteps.{date_only}
use Rattle.imap_grammar.proofs.append.maybe_date.Goals as goal

pub returns-in_default : goal.returns-in_default
returns-in_default c = maybe_more None IsDateTime Some 34 date_only c.args.text.now c.in_default.ensures.cases

pub returns-then-first-ne34 : goal.returns-then-first-ne34
returns-then-first-ne34 c = missing None IsDateTime Some 34 date_only c.args.text.now _ _ c.in-Some.ensures.cases.0 c.if-first-ne34.true

pub returns-in_err-date : goal.returns-in_err-date
returns-in_err-date c =
    passes_on _ _ c.from_residual.result _ c.from_residual.ensures.1 (part_stops None IsDateTime Some 34 date_only c.args.text.now _ _ c.in-Some.ensures.cases.0 c.if-first-ne34.false _ c.in_err-date.ensures)

pub returns-in_err-rest : goal.returns-in_err-rest
returns-in_err-rest c =
    passes_on _ _ c.from_residual-in_err-rest.result _ c.from_residual-in_err-rest.ensures.1
    (space_stops None IsDateTime Some 34 date_only c.args.text.now _ _ c.in-Some.ensures.cases.0 c.if-first-ne34.false _ _ c.in_ok-date.ensures _ c.in_err-rest.ensures)

pub returns : goal.returns
returns c =
    subst (λ z. Reads IsDateAndSpace (always (at_octet 34)) c.args.text.now (Some z) c.in_ok-rest.rest.now) (sym c.in-Ok.ensures)
    (spaced_reads None IsDateTime Some 34 date_only c.args.text.now _ _ c.in-Some.ensures.cases.0 c.if-first-ne34.false _ _ c.in_ok-date.ensures _ c.in_ok-rest.ensures)
