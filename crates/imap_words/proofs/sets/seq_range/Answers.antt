use Rattle.imap_words.proofs.Going.{passes_on}
use Rattle.imap_words.proofs.SetSteps.{first_number_stops, range_open, range_alone, last_stops, range_reads}
use Rattle.imap_words.proofs.sets.seq_range.Goals as goal

pub returns-in_err-first : goal.returns-in_err-first
returns-in_err-first c = passes_on _ _ c.from_residual.result _ c.from_residual.ensures.1 (first_number_stops c.args.text.now _ c.in_err-first.ensures)

pub returns-in_default : goal.returns-in_default
returns-in_default c = range_open c.args.text.now _ _ c.in_ok-first.ensures c.in_default.ensures.cases

pub returns-then-octet-ne58 : goal.returns-then-octet-ne58
returns-then-octet-ne58 c = range_alone c.args.text.now _ _ _ _ c.in_ok-first.ensures c.in-Some.ensures.cases.0 c.if-octet-ne58.true

pub returns-in_err-last : goal.returns-in_err-last
returns-in_err-last c =
    passes_on _ _ c.from_residual-in_err-last.result _ c.from_residual-in_err-last.ensures.1
    (last_stops c.args.text.now _ _ _ _ _ c.in_ok-first.ensures c.in-Some.ensures.cases.0 c.if-octet-ne58.false c.in_err-last.ensures)

pub returns : goal.returns
returns c = range_reads c.args.text.now _ _ _ _ _ _ c.in_ok-first.ensures c.in-Some.ensures.cases.0 c.if-octet-ne58.false c.in_ok-last.ensures
