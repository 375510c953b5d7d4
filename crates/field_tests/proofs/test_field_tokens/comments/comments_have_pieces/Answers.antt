use Rattle.field_tests.proofs.TextComments.{writable_comments}
use Rattle.field_tests.proofs.test_field_tokens.comments.comments_have_pieces.Goals as goal

pub write_comments-requires : goal.write_comments-requires
write_comments-requires c =
    let has = rw (c.in-Ok-Some.field-0-is) at c.in-Ok-Some.ensures.some in
    writable_comments _ _ _ _ has c.deref.ensures.value c.new.ensures
