use Rattle.address_lists.proofs.PathPiecesLemmas.{SaysPath-once, PathPieces-once}
use Rattle.address_lists.proofs.laws.served_paths_are_one.Goals as goal

pub returns-clause-answer : goal.returns-clause-answer
returns-clause-answer c = λ text a b cs ds p q. (SaysPath-once text a b cs ds p q).answer

pub returns-clause-comments : goal.returns-clause-comments
returns-clause-comments c = λ text a b cs ds p q. (SaysPath-once text a b cs ds p q).comments

pub returns-clause-pieces : goal.returns-clause-pieces
returns-clause-pieces c = PathPieces-once
