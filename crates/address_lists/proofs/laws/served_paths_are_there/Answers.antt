use Rattle.address_lists.proofs.PathPiecesLemmas.{decide_path, PathPieces-some, PathPieces-says}
use Rattle.address_lists.proofs.laws.served_paths_are_there.Goals as goal

pub returns-clause-decided : goal.returns-clause-decided
returns-clause-decided c = decide_path

pub returns-clause-pieces : goal.returns-clause-pieces
returns-clause-pieces c = PathPieces-some

pub returns-clause-paths : goal.returns-clause-paths
returns-clause-paths c = PathPieces-says
