use Rattle.std.proofs.Common.{◌≡◌, Err, sym, ap, ◌∙◌}
use Rattle.std.proofs.lemmas.Bool.{both_ways}
use Rattle.std.proofs.lemmas.Result.{err_from_is_err_and}
use Rattle.address_grammar.specs.declared.AddressFault.TheVariants.{Malformed}
use Rattle.address_grammar.proofs.PathLemmas.{fault_is}
use Rattle.imap_views.proofs.GroupForms.{group_unclosed, group_unnamed, group_followed, group_of_others}
use Rattle.imap_views.proofs.addresses.push_group.Goals.{then-not-are_blank-via-then-not-are_blank, then-not-are_blank-via-else-not-are_blank+then-not-is_phrase}
use Rattle.imap_views.proofs.addresses.push_group.Goals as goal

pub returns-in_default-clause-malformed : goal.returns-in_default-clause-malformed
returns-in_default-clause-malformed c = λ e ts text s. group_unclosed ts _ _ text s c.in_default.ensures.none

pub returns-then-not-are_blank-clause-malformed : goal.returns-then-not-are_blank-clause-malformed
returns-then-not-are_blank-clause-malformed c = λ e ts text s. elim c.then-not-are_blank.branch [
  | then-not-are_blank-via-then-not-are_blank w ↦ group_followed ts _ _ _ _ text s c.in-Some.ensures.found (sym c.are_blank.ensures ∙ w.if-not-are_blank.true)
  | then-not-are_blank-via-else-not-are_blank+then-not-is_phrase w ↦ group_unnamed ts _ _ text s (λ is. both_ways w.is_phrase.result w.if-not-is_phrase.true (w.is_phrase.ensures.1 is))
]

pub returns-in_err-push_members-clause-malformed : goal.returns-in_err-push_members-clause-malformed
returns-in_err-push_members-clause-malformed c = λ e ts text s.
    let p = err_from_is_err_and c.from_residual.result c.from_residual.ensures.1 in
    let same : c.in_err-push_members.field-0.0 ≡ Malformed = fault_is c.from_residual.result p.0 _ p.1 p.2 e in
    group_of_others ts _ _ _ _ text s c.in-Some.ensures.found (c.in_err-push_members.ensures.malformed (ap Err same))
