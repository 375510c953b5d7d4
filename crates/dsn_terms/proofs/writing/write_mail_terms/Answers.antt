use Rattle.std.proofs.Common.{rules}
use Rattle.dsn_terms.proofs.WrittenTerms.{IsMailTermsText-written}
use Rattle.dsn_terms.proofs.writing.write_mail_terms.Goals as goal

pub returns-clause-read_back : goal.returns-clause-read_back
returns-clause-read_back c = IsMailTermsText-written c.args.terms.now _ c.requires (search rules)
