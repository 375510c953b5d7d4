use Rattle.std.proofs.Common.{◌≡◌, Err, ap}
use Rattle.std.proofs.lemmas.Result.{err_from_is_err_and}
use Rattle.address_grammar.specs.declared.AddressFault.TheVariants.{Malformed}
use Rattle.address_grammar.proofs.PathLemmas.{fault_is}
use Rattle.address_grammar.specs.Found.{found_value}
use Rattle.address_lists.proofs.WritableTokens.{mailbox_writable}
use Rattle.address_grammar.proofs.ListSaying.{one_malformed}
use Rattle.address_lists.proofs.members.is_served.Goals as goal

pub returns-in_err-mailbox-clause-malformed : goal.returns-in_err-mailbox-clause-malformed
returns-in_err-mailbox-clause-malformed c = λ e.
    let p = err_from_is_err_and c.from_residual.result c.from_residual.ensures.1 in
    let same : c.in_err-mailbox.field-0.0 ≡ Malformed = fault_is c.from_residual.result p.0 _ p.1 p.2 e in
    one_malformed _ (c.in_err-mailbox.ensures.malformed (ap Err same))

pub can_be_served-requires : goal.can_be_served-requires
can_be_served-requires c =
    let found = c.in_ok-mailbox.ensures.ok in
    (mailbox_writable _ (found_value c.in_ok-mailbox.mailbox found.0) c.requires found.1).domain

pub returns-in-Ok-clause-ok : goal.returns-in-Ok-clause-ok
returns-in-Ok-clause-ok c =
    let found = c.in_ok-mailbox.ensures.ok in
    (found_value c.in_ok-mailbox.mailbox found.0, found.1, c.in-Ok.ensures)
