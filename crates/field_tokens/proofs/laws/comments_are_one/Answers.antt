use Rattle.field_tokens.proofs.CommentValues.{CommentSays-once, CommentPieces-once}
use Rattle.field_tokens.proofs.laws.comments_are_one.Goals as goal

pub returns-clause-value : goal.returns-clause-value
returns-clause-value c = CommentSays-once

pub returns-clause-pieces : goal.returns-clause-pieces
returns-clause-pieces c = CommentPieces-once
