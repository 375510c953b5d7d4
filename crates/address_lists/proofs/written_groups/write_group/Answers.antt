use Rattle.std.proofs.Common.{◌≡◌, Err, ap}
use Rattle.std.proofs.lemmas.Result.{err_from_is_err_and}
use Rattle.address_grammar.specs.declared.AddressFault.TheVariants.{Malformed}
use Rattle.address_grammar.proofs.PathLemmas.{fault_is}
use Rattle.address_lists.proofs.WritableTokens.{following_can}
use Rattle.address_grammar.proofs.ListLemmas.{element_group}
use Rattle.address_lists.proofs.ListRewriting.{group_read}
use Rattle.address_lists.proofs.written_groups.write_group.Goals as goal

pub is_served_group-requires : goal.is_served_group-requires
is_served_group-requires c = let s = c.requires.splits.splits in following_can _ _ _ s.at s.whole c.requires.writable

pub returns-in_err-is_served-clause-malformed : goal.returns-in_err-is_served-clause-malformed
returns-in_err-is_served-clause-malformed c = λ e f is.
    let p = err_from_is_err_and c.from_residual.result c.from_residual.ensures.1 in
    let same : c.in_err-is_served.field-0.0 ≡ Malformed = fault_is c.from_residual.result p.0 _ p.1 p.2 e in
    c.in_err-is_served.ensures.malformed (ap Err same) f (element_group _ _ _ f c.requires.splits is)

pub write_known_group-requires-clause-group : goal.write_known_group-requires-clause-group
write_known_group-requires-clause-group c = group_read _ _ _ _ c.requires.splits c.in_ok-is_served.ensures.ok
