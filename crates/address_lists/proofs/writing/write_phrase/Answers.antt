use Rattle.std.proofs.lemmas.Result.{on_ok_weaker}
use Rattle.address_lists.proofs.PhraseWriting.{core_utf8, core_writable, trail_writable, place_adds}
use Rattle.address_lists.proofs.writing.write_phrase.Goals as goal

pub push_core-requires-clause-utf8 : goal.push_core-requires-clause-utf8
push_core-requires-clause-utf8 c = core_utf8 _ _ _ c.requires.utf8 c.split_core.ensures

pub push_core-requires-clause-comments : goal.push_core-requires-clause-comments
push_core-requires-clause-comments c = core_writable _ _ _ c.requires.comments c.split_core.ensures

pub write_comments-requires : goal.write_comments-requires
write_comments-requires c = trail_writable _ _ _ c.requires.comments c.split_core.ensures

pub returns : goal.returns
returns c = on_ok_weaker c.write_comments.result (λ a. place_adds _ _ _ _ _ _ c.split_core.ensures c.in_ok-push_core.ensures a) c.write_comments.ensures
