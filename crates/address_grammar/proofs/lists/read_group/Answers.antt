use Rattle.std.proofs.Common.{◌≡◌, Err, sym, ap, ◌∙◌}
use Rattle.std.proofs.lemmas.Result.{err_from_is_err_and}
use Rattle.address_grammar.specs.declared.AddressFault.TheVariants.{Malformed}
use Rattle.address_grammar.proofs.PathLemmas.{fault_is}
use Rattle.address_grammar.proofs.WholeLists.{group_unclosed, group_followed, group_members}
use Rattle.address_grammar.proofs.lists.read_group.Goals as goal

pub returns-in_default-clause-malformed : goal.returns-in_default-clause-malformed
returns-in_default-clause-malformed c = λ _. group_unclosed _ _ c.in_default.ensures.none

pub returns-then-not-are_blank-clause-malformed : goal.returns-then-not-are_blank-clause-malformed
returns-then-not-are_blank-clause-malformed c = λ _. group_followed _ _ _ _ c.in-Some.ensures.found (sym c.are_blank.ensures ∙ c.if-not-are_blank.true)

pub returns-in_err-members-clause-malformed : goal.returns-in_err-members-clause-malformed
returns-in_err-members-clause-malformed c = λ e.
    let p = err_from_is_err_and c.from_residual.result c.from_residual.ensures.1 in
    let same : c.in_err-members.field-0.0 ≡ Malformed = fault_is c.from_residual.result p.0 _ p.1 p.2 e in
    group_members _ _ _ _ c.in-Some.ensures.found (c.in_err-members.ensures.malformed (ap Err same))
