use Rattle.journal_records.proofs.KeyLemmas.{domain_text_utf8}
use Rattle.journal_records.proofs.addresses.is_domain_text.Goals as goal

pub returns-in_default : goal.returns-in_default
returns-in_default c = (λ h. absurd (cc h), λ h. absurd (c.in_default.ensures.cases.0 (domain_text_utf8 c.args.text.now h)))
