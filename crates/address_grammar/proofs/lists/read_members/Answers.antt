use Rattle.std.proofs.Common.{◌≡◌, Err, sym, ap, ◌∙◌}
use Rattle.std.proofs.lemmas.Result.{err_from_is_err_and}
use Rattle.address_grammar.specs.declared.AddressFault.TheVariants.{Malformed}
use Rattle.address_grammar.proofs.PathLemmas.{fault_is}
use Rattle.address_grammar.proofs.WholeLists.{members_malformed}
use Rattle.address_grammar.proofs.lists.read_members.Goals as goal

pub returns-in_err-members-clause-malformed : goal.returns-in_err-members-clause-malformed
returns-in_err-members-clause-malformed c = λ e.
    let p = err_from_is_err_and c.from_residual.result c.from_residual.ensures.1 in
    let same : c.in_err-members.field-0.0 ≡ Malformed = fault_is c.from_residual.result p.0 _ p.1 p.2 e in
    members_malformed _ (sym c.are_blank.ensures ∙ c.if-are_blank.false) (c.in_err-members.ensures.malformed (ap Err same))
