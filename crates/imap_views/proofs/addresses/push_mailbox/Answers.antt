use Rattle.std.proofs.Common.{◌≡◌, Err, ap}
use Rattle.std.proofs.lemmas.Result.{err_from_is_err_and}
use Rattle.address_grammar.specs.declared.AddressFault.TheVariants.{Malformed}
use Rattle.address_grammar.specs.Found.{found_value}
use Rattle.address_grammar.proofs.PathLemmas.{fault_is}
use Rattle.imap_views.proofs.AddressForms.{mailbox_name}
use Rattle.imap_views.proofs.addresses.push_mailbox.Goals as goal

pub returns-in_err-mailbox-clause-malformed : goal.returns-in_err-mailbox-clause-malformed
returns-in_err-mailbox-clause-malformed c = λ e text is.
    let p = err_from_is_err_and c.from_residual.result c.from_residual.ensures.1 in
    let same : c.in_err-mailbox.field-0.0 ≡ Malformed = fault_is c.from_residual.result p.0 _ p.1 p.2 e in
    c.in_err-mailbox.ensures.malformed (ap Err same) is.mailbox is.is_mailbox

pub name_of-requires : goal.name_of-requires
name_of-requires c = let found = c.in_ok-mailbox.ensures.ok in mailbox_name _ (found_value c.in_ok-mailbox.mailbox found.0) found.1
