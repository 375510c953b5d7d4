use Rattle.std.proofs.Common.{sym}
use Rattle.dsn_terms.proofs.WrittenTerms.{same-put, orcpt_text-rfc822}
use Rattle.dsn_terms.proofs.writing.push_orcpt.Goals as goal

pub push_other-requires-clause-other : goal.push_other-requires-clause-other
push_other-requires-clause-other c = sym c.in_default.ensures

pub returns : goal.returns
returns c = same-put c.push_rfc822.result c.args.text.now _ _ _ (orcpt_text-rfc822 c.args.orcpt.now c.in-Some.address.now (sym c.in-Some.ensures)) c.push_rfc822.ensures
