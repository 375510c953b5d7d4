use Rattle.std.proofs.Common.{rules}
use Rattle.dsn_terms.proofs.WrittenTerms.{IsRecipientTermsText-written}
use Rattle.dsn_terms.proofs.writing.write_rcpt_terms.Goals as goal

pub returns-clause-read_back : goal.returns-clause-read_back
returns-clause-read_back c = IsRecipientTermsText-written c.args.asked.now _ c.requires (search rules)
