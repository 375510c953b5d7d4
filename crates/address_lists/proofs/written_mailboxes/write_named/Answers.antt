use Rattle.std.proofs.lemmas.Result.{on_ok_weaker}
use Rattle.address_lists.proofs.PhraseWriting.{phrase_core, core_utf8, core_writable, trail_writable}
use Rattle.address_lists.proofs.ServedMailboxes.{named_made}
use Rattle.address_lists.proofs.written_mailboxes.write_named.Goals as goal

pub push_core-requires-clause-phrase : goal.push_core-requires-clause-phrase
push_core-requires-clause-phrase c = phrase_core _ _ _ c.requires.phrase c.split_core.ensures

pub push_core-requires-clause-utf8 : goal.push_core-requires-clause-utf8
push_core-requires-clause-utf8 c = core_utf8 _ _ _ c.requires.before.items c.split_core.ensures

pub push_core-requires-clause-comments : goal.push_core-requires-clause-comments
push_core-requires-clause-comments c = core_writable _ _ _ c.requires.before.comments c.split_core.ensures

pub write_comments-requires : goal.write_comments-requires
write_comments-requires c = trail_writable _ _ _ c.requires.before.comments c.split_core.ensures

pub write_comments-requires-2 : goal.write_comments-requires-2
write_comments-requires-2 c = c.requires.following.comments

pub returns : goal.returns
returns c = on_ok_weaker c.write_comments-2.result
    (λ r. named_made _ _ _ _ _ _ _ _ _ _ c.split_core.ensures c.in_ok-push_core.ensures c.in_ok-push_angled.ensures c.in_ok-write_comments.ensures r) c.write_comments-2.ensures
