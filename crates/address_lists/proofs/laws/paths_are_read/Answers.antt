use Rattle.address_grammar.proofs.DecidePaths.{paths_read}
use Rattle.address_lists.proofs.laws.paths_are_read.Goals as goal

pub returns : goal.returns
returns c = paths_read
