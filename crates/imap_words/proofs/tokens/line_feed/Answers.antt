use Rattle.imap_words.proofs.Passing.{no_octets}
use Rattle.imap_words.proofs.TokenSteps.{octet_more, octet_fails}
use Rattle.imap_words.proofs.tokens.line_feed.Goals as goal

pub returns-in_default-clause-more : goal.returns-in_default-clause-more
returns-in_default-clause-more c = λ e. no_octets c.args.text.now c.in_default.ensures.cases

pub returns-in_default-clause-reads : goal.returns-in_default-clause-reads
returns-in_default-clause-reads c = octet_more 10 c.args.text.now c.in_default.ensures.cases

pub returns-else-first-eq10-clause-reads : goal.returns-else-first-eq10-clause-reads
returns-else-first-eq10-clause-reads c = octet_fails 10 _ c.args.text.now _ c.in-Some.ensures.cases.0 c.if-first-eq10.false
