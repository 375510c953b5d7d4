use Rattle.std.proofs.Common.{◌≡◌, Err, ap}
use Rattle.std.proofs.lemmas.Result.{err_from_is_err_and}
use Rattle.address_grammar.specs.declared.AddressFault.TheVariants.{Malformed}
use Rattle.address_grammar.proofs.PathLemmas.{fault_is}
use Rattle.address_lists.proofs.WritableTokens.{before_can}
use Rattle.address_lists.proofs.ServedLists.{served_start, served_turn, served_end, served_stuck, served_stuck_last}
use Rattle.address_lists.proofs.members.are_served.Goals as goal

pub loop-member-init : goal.loop-member-init
loop-member-init c = served_start _ c.requires

pub is_served-requires : goal.is_served-requires
is_served-requires c = let s = c.in-Some.ensures.found in before_can _ _ _ s.comma s.whole c.loop-member.invariant.can

pub returns-in_err-is-clause-malformed : goal.returns-in_err-is-clause-malformed
returns-in_err-is-clause-malformed c = λ e ms.
    let p = err_from_is_err_and c.from_residual.result c.from_residual.ensures.1 in
    let same : c.in_err-is.field-0.0 ≡ Malformed = fault_is c.from_residual.result p.0 _ p.1 p.2 e in
    served_stuck _ _ _ _ _ c.loop-member.invariant c.in-Some.ensures.found (c.in_err-is.ensures.malformed (ap Err same)) ms

pub loop-member-preserved : goal.loop-member-preserved
loop-member-preserved c = rw (c.both-are.ensures) (served_turn _ _ _ _ _ _ c.loop-member.invariant c.in-Some.ensures.found c.in_ok-is.ensures.ok)

pub is_served-requires-2 : goal.is_served-requires-2
is_served-requires-2 c = c.loop-member.invariant.can

pub returns-in_err-is-2-clause-malformed : goal.returns-in_err-is-2-clause-malformed
returns-in_err-is-2-clause-malformed c = λ e ms.
    let p = err_from_is_err_and c.from_residual-in_err-is-2.result c.from_residual-in_err-is-2.ensures.1 in
    let same : c.in_err-is-2.field-0.0 ≡ Malformed = fault_is c.from_residual-in_err-is-2.result p.0 _ p.1 p.2 e in
    served_stuck_last _ _ _ c.loop-member.invariant c.in_default.ensures.none (c.in_err-is-2.ensures.malformed (ap Err same)) ms

pub returns-clause-ok : goal.returns-clause-ok
returns-clause-ok c = rw (c.both-all.ensures) (served_end _ _ _ _ c.loop-member.invariant c.in_ok-is-2.ensures.ok)
