use Rattle.std.proofs.Common.{◌≡◌, Err, refl, ap}
use Rattle.std.proofs.lemmas.Result.{err_from_is_err_and}
use Rattle.address_grammar.specs.declared.AddressFault.TheVariants.{Malformed}
use Rattle.address_grammar.proofs.PathLemmas.{fault_is}
use Rattle.address_grammar.proofs.MailboxLemmas.{found_by}
use Rattle.address_grammar.proofs.mailboxes.find_named.Goals as goal

pub returns-in_default-clause-malformed : goal.returns-in_default-clause-malformed
returns-in_default-clause-malformed c = λ e m is. c.in_default.ensures.none m.phrase m.display is.says

pub returns-in_err-address-clause-malformed : goal.returns-in_err-address-clause-malformed
returns-in_err-address-clause-malformed c = λ e m is.
    let p = err_from_is_err_and c.from_residual.result c.from_residual.ensures.1 in
    let same : c.in_err-address.field-0.0 ≡ Malformed = fault_is c.from_residual.result p.0 _ p.1 p.2 e in
    c.in_err-address.ensures.malformed (ap Err same) m.address is.address

pub returns-clause-ok : goal.returns-clause-ok
returns-clause-ok c = found_by _ _ _ c.in-Some.ensures.some c.in_ok-address.ensures.ok refl
