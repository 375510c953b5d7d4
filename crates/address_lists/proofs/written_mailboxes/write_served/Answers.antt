use Rattle.std.proofs.lemmas.Result.{on_ok_weaker}
use Rattle.address_grammar.specs.Found.{found_value}
use Rattle.address_lists.proofs.ServedMailboxes.{is_bare, bare_adds}
use Rattle.address_lists.proofs.written_mailboxes.write_served.Goals as goal

pub write_comments-requires : goal.write_comments-requires
write_comments-requires c = c.requires.writable.comments

pub returns : goal.returns
returns c =
    let m = found_value c.args.mailbox.now c.requires.mailbox.0 in
    on_ok_weaker c.write_comments.result
    (λ a. bare_adds _ m _ _ _ _ (is_bare _ m c.if-mailbox.false c.requires.mailbox.1) c.requires.served c.in_ok-push_bare.ensures a) c.write_comments.ensures
