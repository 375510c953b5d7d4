use Rattle.address_grammar.proofs.PathParts.{path_parts}
use Rattle.address_lists.proofs.laws.paths_are_utf8.Goals as goal

pub returns-clause-local : goal.returns-clause-local
returns-clause-local c text address path = (path_parts text address path).0

pub returns-clause-domain : goal.returns-clause-domain
returns-clause-domain c text address path = (path_parts text address path).1
