use Rattle.imap_words.proofs.Going.{passes_on}
use Rattle.imap_grammar.proofs.FetchEnds.{partial_more, partial_none, partial_stops, partial_reads}
use Rattle.imap_grammar.proofs.fetch.partial.Goals as goal

pub returns-in_default : goal.returns-in_default
returns-in_default c = partial_more c.args.text.now c.in_default.ensures.cases

pub returns-then-first-ne60 : goal.returns-then-first-ne60
returns-then-first-ne60 c = partial_none c.args.text.now _ _ c.in-Some.ensures.cases.0 c.if-first-ne60.true

pub returns-in_err-part : goal.returns-in_err-part
returns-in_err-part c = passes_on _ _ c.from_residual.result _ c.from_residual.ensures.1 (partial_stops c.args.text.now _ _ c.in-Some.ensures.cases.0 _ c.if-first-ne60.false c.in_err-part.ensures)

pub returns : goal.returns
returns c = partial_reads c.args.text.now _ _ c.in-Some.ensures.cases.0 _ _ c.if-first-ne60.false c.in_ok-part.ensures
