use Rattle.std.proofs.Common.{◌≡◌, [], ◌∷◌, Err, refl, ap}
use Rattle.std.proofs.lemmas.List.{map-append}
use Rattle.std.proofs.lemmas.Result.{err_from_is_err_and}
use Rattle.address_grammar.specs.private.ListViews.{mailbox_value}
use Rattle.address_grammar.specs.declared.AddressFault.TheVariants.{Malformed}
use Rattle.address_grammar.proofs.PathLemmas.{fault_is}
use Rattle.address_grammar.proofs.ListSaying.{one_malformed}
use Rattle.address_grammar.proofs.lists.push_mailbox.Goals as goal

pub returns-clause-ok : goal.returns-clause-ok
returns-clause-ok c = record {
  first = mailbox_value c.in_ok-mailbox.mailbox ∷ [];
  says = c.in_ok-mailbox.ensures.ok;
  added = rw (c.in-Ok.ensures.items, map-append) refl;
}

pub returns-in_err-mailbox-clause-malformed : goal.returns-in_err-mailbox-clause-malformed
returns-in_err-mailbox-clause-malformed c = λ e.
    let p = err_from_is_err_and c.from_residual.result c.from_residual.ensures.1 in
    let same : c.in_err-mailbox.field-0.0 ≡ Malformed = fault_is c.from_residual.result p.0 _ p.1 p.2 e in
    one_malformed _ (c.in_err-mailbox.ensures.malformed (ap Err same))
