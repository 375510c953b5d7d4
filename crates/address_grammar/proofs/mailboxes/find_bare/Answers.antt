use Rattle.std.proofs.Common.{◌≡◌, Err, ap}
use Rattle.std.proofs.lemmas.Result.{err_from_is_err_and}
use Rattle.address_grammar.specs.declared.AddressFault.TheVariants.{Malformed}
use Rattle.address_grammar.proofs.PathLemmas.{fault_is}
use Rattle.address_grammar.proofs.mailboxes.find_bare.Goals as goal

pub returns-in_err-address-clause-malformed : goal.returns-in_err-address-clause-malformed
returns-in_err-address-clause-malformed c = λ e m is.
    let p = err_from_is_err_and c.from_residual.result c.from_residual.ensures.1 in
    let same : c.in_err-address.field-0.0 ≡ Malformed = fault_is c.from_residual.result p.0 _ p.1 p.2 e in
    c.in_err-address.ensures.malformed (ap Err same) m.address is.is_address
