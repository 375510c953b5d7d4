use Rattle.ace_domains.proofs.FormLemmas.{form_own, form_ascii, form_domain, form_name}
use Rattle.ace_domains.proofs.laws.forms_are_names.Goals as goal

pub returns-clause-own : goal.returns-clause-own
returns-clause-own c = form_own

pub returns-clause-ascii : goal.returns-clause-ascii
returns-clause-ascii c = form_ascii

pub returns-clause-domain : goal.returns-clause-domain
returns-clause-domain c = form_domain

pub returns-clause-name : goal.returns-clause-name
returns-clause-name c = form_name
