use Rattle.imap_grammar.proofs.FetchEnds.{step_awaits, step_reads}
use Rattle.imap_grammar.proofs.fetch.following_step.Goals as goal

pub returns-in-Awaits-clause-reads : goal.returns-in-Awaits-clause-reads
returns-in-Awaits-clause-reads c = λ utf8. step_awaits utf8 c.args.text.now c.in-Awaits.is

pub returns-in-Read-clause-reads : goal.returns-in-Read-clause-reads
returns-in-Read-clause-reads c = λ utf8. step_reads utf8 c.args.text.now _ c.in-Read.is (c.more_items.ensures.reads utf8)
