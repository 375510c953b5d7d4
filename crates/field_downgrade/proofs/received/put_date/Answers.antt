use Rattle.std.proofs.lemmas.Result.{on_ok_weaker}
use Rattle.field_tokens.specs.Lexemes.{values_of}
use Rattle.field_downgrade.proofs.ReceivedRewriting.{date_put, date_writable}
use Rattle.field_downgrade.proofs.received.put_date.Goals as goal

pub write_comments-requires : goal.write_comments-requires
write_comments-requires c = date_writable _ (rw (c.in-Some.is) at c.requires.read)

pub returns : goal.returns
returns c =
    on_ok_weaker c.write_comments.result
    (λ adds. rw (c.in-Some.is) (date_put (values_of c.in-Some.following) c.args.said.now _ _ _ (rw (c.in-Some.is) at c.requires.said) c.in_ok-put_word.ensures adds)) c.write_comments.ensures
