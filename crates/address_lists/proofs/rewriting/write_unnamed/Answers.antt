use Rattle.std.proofs.Common.{◌≡◌, Err, ap}
use Rattle.std.proofs.lemmas.Result.{err_from_is_err_and}
use Rattle.address_grammar.specs.declared.AddressFault.TheVariants.{Malformed}
use Rattle.address_grammar.proofs.PathLemmas.{fault_is}
use Rattle.address_grammar.proofs.WholeLists.{single_malformed}
use Rattle.address_lists.proofs.ListRewriting.{single_gives}
use Rattle.address_lists.proofs.rewriting.write_unnamed.Goals as goal

pub returns-in_err-mailbox-clause-malformed : goal.returns-in_err-mailbox-clause-malformed
returns-in_err-mailbox-clause-malformed c = λ e.
    let p = err_from_is_err_and c.from_residual.result c.from_residual.ensures.1 in
    let same : c.in_err-mailbox.field-0.0 ≡ Malformed = fault_is c.from_residual.result p.0 _ p.1 p.2 e in
    single_malformed _ c.requires.unnamed (c.in_err-mailbox.ensures.malformed (ap Err same))

pub returns-clause-ok : goal.returns-clause-ok
returns-clause-ok c = single_gives _ _ _ c.in-Ok.ensures
