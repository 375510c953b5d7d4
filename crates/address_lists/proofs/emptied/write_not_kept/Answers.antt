use Rattle.std.proofs.lemmas.Result.{on_ok_weaker}
use Rattle.std.proofs.Common.{false}
use Rattle.address_lists.proofs.WritableTokens.{before_can, following_can}
use Rattle.address_lists.proofs.KeptGroups.{no_colon, no_semicolon, group_at, not_kept_members, emptied_group}
use Rattle.address_lists.proofs.emptied.write_not_kept.Goals as goal

pub unreachable-requires : goal.unreachable-requires
unreachable-requires c = no_colon _ false c.requires.group c.in_default.ensures.none

pub unreachable-requires-in_default-split_at_mark : goal.unreachable-requires-in_default-split_at_mark
unreachable-requires-in_default-split_at_mark c = no_semicolon _ _ _ false c.requires.group c.in-Some.ensures.found c.in_default-split_at_mark.ensures.none

pub write_group_units-requires-clause-phrase : goal.write_group_units-requires-clause-phrase
write_group_units-requires-clause-phrase c = (group_at _ _ _ false c.requires.group c.in-Some.ensures.found).is_phrase

pub write_group_units-requires-clause-name : goal.write_group_units-requires-clause-name
write_group_units-requires-clause-name c = let s = c.in-Some.ensures.found in before_can _ _ _ s.at s.whole c.requires.writable

pub write_group_units-requires-clause-members : goal.write_group_units-requires-clause-members
write_group_units-requires-clause-members c =
    let s = c.in-Some.ensures.found in
    let t = c.in-Some-split_at_mark.ensures.found in
    before_can _ _ _ t.at t.whole (following_can _ _ _ s.at s.whole c.requires.writable)

pub write_group_units-requires-clause-some : goal.write_group_units-requires-clause-some
write_group_units-requires-clause-some c = not_kept_members _ _ _ _ _ c.requires.group c.in-Some.ensures.found c.in-Some-split_at_mark.ensures.found

pub write_no_members-requires : goal.write_no_members-requires
write_no_members-requires c = c.requires.writable.comments

pub returns : goal.returns
returns c = on_ok_weaker c.write_no_members.result
    (λ a. emptied_group _ _ _ _ _ _ _ _ c.requires.group c.in-Some.ensures.found c.in-Some-split_at_mark.ensures.found c.in_ok-write_group_units.ensures a) c.write_no_members.ensures
