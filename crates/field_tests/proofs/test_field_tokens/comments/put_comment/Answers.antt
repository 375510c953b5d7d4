use Rattle.field_tests.proofs.OneComment.{one_comment}
use Rattle.field_tests.proofs.test_field_tokens.comments.put_comment.Goals as goal

pub write_comment-requires-clause-comment : goal.write_comment-requires-clause-comment
write_comment-requires-clause-comment c =
    let has = rw (c.in-Ok-Some.field-0-is) at c.in-Ok-Some.ensures.some in
    one_comment _ _ _ has (rw (c.deref.ensures.value) at (c.is_one_comment.ensures c.if-not-is_one_comment.false))
