use Rattle.field_tokens.proofs.CommentValues.{CommentSays-some, CommentPieces-some}
use Rattle.field_tokens.proofs.laws.comments_are_there.Goals as goal

pub returns-clause-value : goal.returns-clause-value
returns-clause-value c = CommentSays-some

pub returns-clause-pieces : goal.returns-clause-pieces
returns-clause-pieces c = CommentPieces-some
