use Rattle.imap_words.proofs.Going.{passes_on}
use Rattle.imap_grammar.proofs.FlagSteps.{return_ends, to_end_more, listed_stops, listed_end_stops, listed_end_reads, unlisted_stops, unlisted_end_stops, unlisted_end_reads}
use Rattle.imap_grammar.proofs.flags.flags_to_end.Goals as goal

pub returns-in_default-clause-reads : goal.returns-in_default-clause-reads
returns-in_default-clause-reads c = to_end_more c.args.text.now c.in_default.ensures.cases

pub returns-in_err-flags-clause-reads : goal.returns-in_err-flags-clause-reads
returns-in_err-flags-clause-reads c = passes_on _ _ c.from_residual.result _ c.from_residual.ensures.1 (listed_stops c.args.text.now _ _ c.in-Some.ensures.cases.0 _ c.if-first-eq40.true c.in_err-flags.ensures)

pub returns-in_err-rest-clause-reads : goal.returns-in_err-rest-clause-reads
returns-in_err-rest-clause-reads c =
    passes_on _ _ c.from_residual-in_err-rest.result _ c.from_residual-in_err-rest.ensures.1
    (listed_end_stops c.args.text.now _ _ c.in-Some.ensures.cases.0 _ _ c.in_ok-flags.ensures _ c.if-first-eq40.true c.in_err-rest.ensures.reads)

pub returns-then-first-eq40-clause-reads : goal.returns-then-first-eq40-clause-reads
returns-then-first-eq40-clause-reads c = listed_end_reads c.args.text.now _ _ c.in-Some.ensures.cases.0 _ _ c.in_ok-flags.ensures _ c.if-first-eq40.true c.in_ok-rest.ensures.reads

pub flags_until-requires : goal.flags_until-requires
flags_until-requires c = return_ends

pub returns-in_err-flags-2-clause-reads : goal.returns-in_err-flags-2-clause-reads
returns-in_err-flags-2-clause-reads c =
    passes_on _ _ c.from_residual-in_err-flags-2.result _ c.from_residual-in_err-flags-2.ensures.1 (unlisted_stops c.args.text.now _ _ c.in-Some.ensures.cases.0 _ c.if-first-eq40.false c.in_err-flags-2.ensures)

pub returns-in_err-rest-2-clause-reads : goal.returns-in_err-rest-2-clause-reads
returns-in_err-rest-2-clause-reads c =
    passes_on _ _ c.from_residual-in_err-rest-2.result _ c.from_residual-in_err-rest-2.ensures.1
    (unlisted_end_stops c.args.text.now _ _ c.in-Some.ensures.cases.0 _ _ c.in_ok-flags-2.ensures _ c.if-first-eq40.false c.in_err-rest-2.ensures.reads)

pub returns-clause-reads : goal.returns-clause-reads
returns-clause-reads c = unlisted_end_reads c.args.text.now _ _ c.in-Some.ensures.cases.0 _ _ c.in_ok-flags-2.ensures _ c.if-first-eq40.false c.in_ok-rest-2.ensures.reads
