use Rattle.std.proofs.Common.{◌≡◌, Err, ap}
use Rattle.std.proofs.lemmas.Result.{err_from_is_err_and}
use Rattle.address_grammar.specs.declared.AddressFault.TheVariants.{Malformed}
use Rattle.address_grammar.proofs.PathLemmas.{fault_is}
use Rattle.address_grammar.specs.AddressLists.{SaysPlace}
use Rattle.address_grammar.proofs.DividedLemmas.{parts_start, parts_turn, parts_end, parts_stuck, parts_stuck_last}
use Rattle.address_grammar.proofs.ListLemmas.{place_walked}
use Rattle.address_grammar.proofs.lists.read_elements.Goals as goal

pub loop-place-preserved : goal.loop-place-preserved
loop-place-preserved c =
    let adds = c.in_ok-push_place.ensures.ok in
    parts_turn SaysPlace place_walked _ _ _ _ _ adds.first _ c.loop-place.invariant c.in-Some.ensures.found adds.says adds.added

pub returns-in_err-push_place-clause-malformed : goal.returns-in_err-push_place-clause-malformed
returns-in_err-push_place-clause-malformed c = λ e values.
    let p = err_from_is_err_and c.from_residual.result c.from_residual.ensures.1 in
    let same : c.in_err-push_place.field-0.0 ≡ Malformed = fault_is c.from_residual.result p.0 _ p.1 p.2 e in
    parts_stuck SaysPlace place_walked _ _ _ _ _ c.loop-place.invariant c.in-Some.ensures.found (c.in_err-push_place.ensures.malformed (ap Err same)) values

pub returns-in_err-push_place-2-clause-malformed : goal.returns-in_err-push_place-2-clause-malformed
returns-in_err-push_place-2-clause-malformed c = λ e values.
    let p = err_from_is_err_and c.from_residual-in_err-push_place-2.result c.from_residual-in_err-push_place-2.ensures.1 in
    let same : c.in_err-push_place-2.field-0.0 ≡ Malformed = fault_is c.from_residual-in_err-push_place-2.result p.0 _ p.1 p.2 e in
    parts_stuck_last SaysPlace place_walked _ _ _ c.loop-place.invariant c.in_default.ensures.none (c.in_err-push_place-2.ensures.malformed (ap Err same)) values

pub returns-clause-ok : goal.returns-clause-ok
returns-clause-ok c =
    let adds = c.in_ok-push_place-2.ensures.ok in
    parts_end SaysPlace _ _ _ adds.first _ c.loop-place.invariant adds.says adds.added
