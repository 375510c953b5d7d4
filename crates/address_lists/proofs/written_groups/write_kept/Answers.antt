use Rattle.std.proofs.Common.{true}
use Rattle.std.proofs.lemmas.Result.{on_ok_weaker}
use Rattle.address_lists.proofs.WritableTokens.{before_can, following_can}
use Rattle.address_lists.proofs.KeptGroups.{no_colon, group_at, no_semicolon, inner_known, kept_adds}
use Rattle.address_lists.proofs.written_groups.write_kept.Goals as goal

pub unreachable-requires : goal.unreachable-requires
unreachable-requires c = no_colon _ true c.requires.group c.in_default.ensures.none

pub unreachable-requires-in_default-split_at_mark : goal.unreachable-requires-in_default-split_at_mark
unreachable-requires-in_default-split_at_mark c = no_semicolon _ _ _ true c.requires.group c.in-Some.ensures.found c.in_default-split_at_mark.ensures.none

pub write_phrase-requires-clause-phrase : goal.write_phrase-requires-clause-phrase
write_phrase-requires-clause-phrase c = (group_at _ _ _ true c.requires.group c.in-Some.ensures.found).is_phrase

pub write_phrase-requires-clause-utf8 : goal.write_phrase-requires-clause-utf8
write_phrase-requires-clause-utf8 c = let s = c.in-Some.ensures.found in (before_can _ _ _ s.at s.whole c.requires.writable).items

pub write_phrase-requires-clause-comments : goal.write_phrase-requires-clause-comments
write_phrase-requires-clause-comments c = let s = c.in-Some.ensures.found in (before_can _ _ _ s.at s.whole c.requires.writable).comments

pub write_inner-requires-clause-members : goal.write_inner-requires-clause-members
write_inner-requires-clause-members c = inner_known _ _ _ _ _ true c.requires.group c.in-Some.ensures.found c.in-Some-split_at_mark.ensures.found

pub write_inner-requires-clause-writable : goal.write_inner-requires-clause-writable
write_inner-requires-clause-writable c =
    let s = c.in-Some.ensures.found in
    let t = c.in-Some-split_at_mark.ensures.found in
    before_can _ _ _ t.at t.whole (following_can _ _ _ s.at s.whole c.requires.writable)

pub write_comments-requires : goal.write_comments-requires
write_comments-requires c =
    let s = c.in-Some.ensures.found in
    let t = c.in-Some-split_at_mark.ensures.found in
    (following_can _ _ _ t.at t.whole (following_can _ _ _ s.at s.whole c.requires.writable)).comments

pub returns : goal.returns
returns c = on_ok_weaker c.write_comments.result
    (λ a. kept_adds _ _ _ _ _ _ _ _ _ _ _ c.requires.group c.in-Some.ensures.found c.in-Some-split_at_mark.ensures.found c.in_ok-write_phrase.ensures c.in_ok-push_line.ensures c.in_ok-write_inner.ensures
    c.in_ok-push_line-2.ensures a) c.write_comments.ensures
