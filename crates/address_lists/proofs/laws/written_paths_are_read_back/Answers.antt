use Rattle.address_lists.proofs.PathPiecesAgain.{PathPieces-read}
use Rattle.address_lists.proofs.laws.written_paths_are_read_back.Goals as goal

pub returns : goal.returns
returns c = PathPieces-read
