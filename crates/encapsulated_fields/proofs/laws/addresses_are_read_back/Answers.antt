use Rattle.encapsulated_fields.proofs.FormLemmas.{ReadsAs-xtext, ReadsAs-unitext}
use Rattle.encapsulated_fields.proofs.laws.addresses_are_read_back.Goals as goal

pub returns-clause-xtext : goal.returns-clause-xtext
returns-clause-xtext c = ReadsAs-xtext

pub returns-clause-unitext : goal.returns-clause-unitext
returns-clause-unitext c = ReadsAs-unitext
