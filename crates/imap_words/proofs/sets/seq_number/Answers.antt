use Rattle.imap_words.proofs.Going.{passes_on}
use Rattle.imap_words.proofs.SetSteps.{seq_number_more, star_reads, number_stops, number_read}
use Rattle.imap_words.proofs.sets.seq_number.Goals as goal

pub returns-in_default : goal.returns-in_default
returns-in_default c = seq_number_more c.args.text.now c.in_default.ensures.cases

pub returns-then-first-eq42 : goal.returns-then-first-eq42
returns-then-first-eq42 c = star_reads c.args.text.now _ _ c.in-Some.ensures.cases.0 c.if-first-eq42.true

pub returns-in_err-number : goal.returns-in_err-number
returns-in_err-number c = passes_on _ _ c.from_residual.result _ c.from_residual.ensures.1 (number_stops c.args.text.now _ _ _ c.in-Some.ensures.cases.0 c.if-first-eq42.false c.in_err-number.ensures)

pub returns : goal.returns
returns c = number_read c.args.text.now _ _ _ _ c.in-Some.ensures.cases.0 c.if-first-eq42.false c.in_ok-number.ensures
