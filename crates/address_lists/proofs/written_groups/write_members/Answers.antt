use Rattle.std.proofs.lemmas.Result.{on_ok_weaker}
use Rattle.encoded_words.proofs.LineLemmas.{adds_none}
use Rattle.address_lists.proofs.WritableTokens.{before_can}
use Rattle.address_lists.proofs.KeptGroups.{members_start, part_known, last_known, members_adds, members_all}
use Rattle.address_lists.proofs.written_groups.write_members.Goals as goal

pub loop-member-init : goal.loop-member-init
loop-member-init c = adds_none _ (members_start _ c.requires.writable c.requires.members)

pub write_member-requires-clause-writable : goal.write_member-requires-clause-writable
write_member-requires-clause-writable c = let s = c.in-Some.ensures.found in before_can _ _ _ s.comma s.whole c.loop-member.invariant.holds.can

pub write_member-requires-clause-member : goal.write_member-requires-clause-member
write_member-requires-clause-member c = part_known _ _ _ c.loop-member.invariant.holds.left c.in-Some.ensures.found

pub loop-member-preserved : goal.loop-member-preserved
loop-member-preserved c = members_adds _ _ _ _ _ _ _ _ c.in-Some.ensures.found c.loop-member.invariant c.in_ok-write_member.ensures c.in_ok-push.ensures.ok

pub write_member-requires-2-clause-writable : goal.write_member-requires-2-clause-writable
write_member-requires-2-clause-writable c = c.loop-member.invariant.holds.can

pub write_member-requires-2-clause-member : goal.write_member-requires-2-clause-member
write_member-requires-2-clause-member c = last_known _ c.loop-member.invariant.holds.left c.in_default.ensures.none

pub returns : goal.returns
returns c = on_ok_weaker c.write_member-2.result (λ a. members_all _ _ _ _ _ c.loop-member.invariant a) c.write_member-2.ensures
