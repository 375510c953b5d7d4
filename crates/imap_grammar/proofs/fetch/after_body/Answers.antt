use Rattle.imap_grammar.proofs.FetchEnds.{steps_on}
use Rattle.imap_grammar.proofs.ItemSteps.{body_open, body_section, body_alone}
use Rattle.imap_grammar.proofs.fetch.after_body.Goals as goal

pub returns-in_default-clause-reads : goal.returns-in_default-clause-reads
returns-in_default-clause-reads c = λ utf8. body_open utf8 c.args.fetching c.args.text.now c.in_default.ensures.cases

pub returns-then-first-eq91-clause-reads : goal.returns-then-first-eq91-clause-reads
returns-then-first-eq91-clause-reads c = λ utf8. steps_on utf8 _ (body_section utf8 c.args.fetching c.args.text.now _ _ c.in-Some.ensures.cases.0 c.if-first-eq91.true) (c.section.ensures.reads utf8)

pub returns-clause-reads : goal.returns-clause-reads
returns-clause-reads c = λ utf8. steps_on utf8 _ (body_alone utf8 c.args.fetching c.args.text.now _ _ c.in-Some.ensures.cases.0 c.if-first-eq91.false) (c.read_item.ensures.reads utf8)
