use Rattle.std.proofs.Common.{◌≡◌, Err, ap}
use Rattle.std.proofs.lemmas.Result.{err_from_is_err_and}
use Rattle.address_grammar.specs.declared.AddressFault.TheVariants.{Malformed}
use Rattle.address_grammar.proofs.PathLemmas.{fault_is}
use Rattle.address_grammar.specs.AddressLists.{IsOneMailbox}
use Rattle.address_grammar.proofs.DividedLemmas.{parts_start, parts_turn, parts_end, parts_stuck, parts_stuck_last}
use Rattle.address_grammar.proofs.ListLemmas.{one_walked}
use Rattle.address_grammar.proofs.lists.read_mailboxes.Goals as goal

pub loop-part-preserved : goal.loop-part-preserved
loop-part-preserved c =
    let adds = c.in_ok-push_mailbox.ensures.ok in
    parts_turn IsOneMailbox one_walked _ _ _ _ _ adds.first _ c.loop-part.invariant c.in-Some.ensures.found adds.says adds.added

pub returns-in_err-push_mailbox-clause-malformed : goal.returns-in_err-push_mailbox-clause-malformed
returns-in_err-push_mailbox-clause-malformed c = λ e values.
    let p = err_from_is_err_and c.from_residual.result c.from_residual.ensures.1 in
    let same : c.in_err-push_mailbox.field-0.0 ≡ Malformed = fault_is c.from_residual.result p.0 _ p.1 p.2 e in
    parts_stuck IsOneMailbox one_walked _ _ _ _ _ c.loop-part.invariant c.in-Some.ensures.found (c.in_err-push_mailbox.ensures.malformed (ap Err same)) values

pub returns-in_err-push_mailbox-2-clause-malformed : goal.returns-in_err-push_mailbox-2-clause-malformed
returns-in_err-push_mailbox-2-clause-malformed c = λ e values.
    let p = err_from_is_err_and c.from_residual-in_err-push_mailbox-2.result c.from_residual-in_err-push_mailbox-2.ensures.1 in
    let same : c.in_err-push_mailbox-2.field-0.0 ≡ Malformed = fault_is c.from_residual-in_err-push_mailbox-2.result p.0 _ p.1 p.2 e in
    parts_stuck_last IsOneMailbox one_walked _ _ _ c.loop-part.invariant c.in_default.ensures.none (c.in_err-push_mailbox-2.ensures.malformed (ap Err same)) values

pub returns-clause-ok : goal.returns-clause-ok
returns-clause-ok c =
    let adds = c.in_ok-push_mailbox-2.ensures.ok in
    parts_end IsOneMailbox _ _ _ adds.first _ c.loop-part.invariant adds.says adds.added
