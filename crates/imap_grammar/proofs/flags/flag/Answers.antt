use Rattle.imap_words.proofs.Going.{passes_on}
use Rattle.imap_grammar.proofs.FlagSteps.{flag_more, plain_stops, plain_reads, escaped_stops, escaped_split}
use Rattle.imap_grammar.proofs.flags.flag.Goals as goal

pub returns-in_default : goal.returns-in_default
returns-in_default c = flag_more c.args.text.now c.in_default.ensures.cases

pub returns-in_err-name : goal.returns-in_err-name
returns-in_err-name c = passes_on _ _ c.from_residual.result _ c.from_residual.ensures.1 (plain_stops c.args.text.now _ _ c.in-Some.ensures.cases.0 _ c.if-first-ne92.true c.in_err-name.ensures)

pub returns-then-first-ne92 : goal.returns-then-first-ne92
returns-then-first-ne92 c = plain_reads c.args.text.now _ _ c.in-Some.ensures.cases.0 _ _ c.if-first-ne92.true c.in_ok-name.ensures

pub returns-in_err-following : goal.returns-in_err-following
returns-in_err-following c =
    passes_on _ _ c.from_residual-in_err-following.result _ c.from_residual-in_err-following.ensures.1 (escaped_stops c.args.text.now _ _ c.in-Some.ensures.cases.0 c.if-first-ne92.false _ c.in_err-following.ensures)

pub returns : goal.returns
returns c = escaped_split c.args.text.now _ _ c.in-Some.ensures.cases.0 c.if-first-ne92.false _ _ _ _ c.in_ok-following.ensures c.split_at.ensures.front c.split_at.ensures.back
