use Rattle.std.proofs.lemmas.Result.{on_ok_weaker}
use Rattle.address_lists.proofs.WritableTokens.{before_can}
use Rattle.address_lists.proofs.KeptGroups.{part_known, last_known}
use Rattle.address_lists.proofs.UnitsOnto.{members_none, members_more, members_taken}
use Rattle.address_lists.proofs.emptied.push_members.Goals as goal

pub loop-member-init : goal.loop-member-init
loop-member-init c = members_none _ _ _ c.requires.writable c.requires.members c.requires.units

pub push_member-requires-clause-writable : goal.push_member-requires-clause-writable
push_member-requires-clause-writable c = let s = c.in-Some.ensures.found in before_can _ _ _ s.comma s.whole c.loop-member.invariant.can

pub push_member-requires-clause-member : goal.push_member-requires-clause-member
push_member-requires-clause-member c = part_known _ _ _ c.loop-member.invariant.left c.in-Some.ensures.found

pub push_member-requires-clause-units : goal.push_member-requires-clause-units
push_member-requires-clause-units c = c.loop-member.invariant.ends

pub loop-member-preserved : goal.loop-member-preserved
loop-member-preserved c = members_more _ _ _ _ _ _ _ _ _ _ _ c.loop-member.invariant c.in-Some.ensures.found c.in_ok-push_member.ensures c.in_ok-push_text.ensures

pub push_member-requires-2-clause-member : goal.push_member-requires-2-clause-member
push_member-requires-2-clause-member c = last_known _ c.loop-member.invariant.left c.in_default.ensures.none

pub returns : goal.returns
returns c = on_ok_weaker c.push_member-2.result (λ t. members_taken _ _ _ _ _ _ _ _ c.loop-member.invariant t) c.push_member-2.ensures
