use Rattle.field_tokens.proofs.WrittenComments.{CommentPieces-written}
use Rattle.field_tokens.proofs.laws.written_comments_are_read_back.Goals as goal

pub returns : goal.returns
returns c = CommentPieces-written
