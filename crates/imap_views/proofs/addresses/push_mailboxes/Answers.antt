use Rattle.std.proofs.Common.{◌≡◌, Err, ap}
use Rattle.std.proofs.lemmas.Result.{err_from_is_err_and, on_ok_weaker}
use Rattle.address_grammar.specs.declared.AddressFault.TheVariants.{Malformed}
use Rattle.address_grammar.proofs.PathLemmas.{fault_is}
use Rattle.address_grammar.proofs.DividedLemmas.{parts_stuck, parts_stuck_last}
use Rattle.imap_views.specs.Addresses.{IsMailboxForm}
use Rattle.imap_views.proofs.AddressForms.{mailbox_form_walked}
use Rattle.imap_views.proofs.DividedForms.{pushes_turn, pushes_end}
use Rattle.imap_views.proofs.addresses.push_mailboxes.Goals as goal

pub returns-in_err-push_mailbox-clause-malformed : goal.returns-in_err-push_mailbox-clause-malformed
returns-in_err-push_mailbox-clause-malformed c = λ e.
    let p = err_from_is_err_and c.from_residual.result c.from_residual.ensures.1 in
    let same : c.in_err-push_mailbox.field-0.0 ≡ Malformed = fault_is c.from_residual.result p.0 _ p.1 p.2 e in
    parts_stuck IsMailboxForm mailbox_form_walked _ _ _ _ _ c.loop-part.invariant.reads c.in-Some.ensures.found (c.in_err-push_mailbox.ensures.malformed (ap Err same))

pub loop-part-preserved : goal.loop-part-preserved
loop-part-preserved c = pushes_turn IsMailboxForm mailbox_form_walked _ _ _ _ _ _ _ c.loop-part.invariant c.in-Some.ensures.found c.in_ok-push_mailbox.ensures.ok

pub returns-clause-ok : goal.returns-clause-ok
returns-clause-ok c = on_ok_weaker c.push_mailbox-2.result (λ adds. pushes_end IsMailboxForm _ _ _ _ _ c.loop-part.invariant adds) c.push_mailbox-2.ensures.ok

pub returns-clause-malformed : goal.returns-clause-malformed
returns-clause-malformed c = λ e. parts_stuck_last IsMailboxForm mailbox_form_walked _ _ _ c.loop-part.invariant.reads c.in_default.ensures.none (c.push_mailbox-2.ensures.malformed e)
