use Rattle.dsn_terms.proofs.TermFacts.{HasMailTerms-once, HasRecipientTerms-once}
use Rattle.dsn_terms.proofs.laws.terms_are_one.Goals as goal

pub returns-clause-mail : goal.returns-clause-mail
returns-clause-mail c = HasMailTerms-once

pub returns-clause-recipient : goal.returns-clause-recipient
returns-clause-recipient c = HasRecipientTerms-once
