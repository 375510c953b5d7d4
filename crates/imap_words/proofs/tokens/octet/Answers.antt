use Rattle.imap_words.proofs.TokenSteps.{octet_more, octet_fails}
use Rattle.imap_words.proofs.tokens.octet.Goals as goal

pub returns-in_default : goal.returns-in_default
returns-in_default c = octet_more c.args.wanted c.args.text.now c.in_default.ensures.cases

pub returns-else-first-wanted : goal.returns-else-first-wanted
returns-else-first-wanted c = octet_fails c.args.wanted _ c.args.text.now _ c.in-Some.ensures.cases.0 c.if-first-wanted.false
