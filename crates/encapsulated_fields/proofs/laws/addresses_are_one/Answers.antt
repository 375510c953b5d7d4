use Rattle.encapsulated_fields.proofs.XtextLemmas.{ReadsAs-once, ReadsAs-utf8}
use Rattle.encapsulated_fields.proofs.laws.addresses_are_one.Goals as goal

pub returns-clause-one : goal.returns-clause-one
returns-clause-one c = ReadsAs-once

pub returns-clause-utf8 : goal.returns-clause-utf8
returns-clause-utf8 c = ReadsAs-utf8
