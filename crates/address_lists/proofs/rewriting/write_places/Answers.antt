use Rattle.std.proofs.Common.{◌≡◌, Err, ap}
use Rattle.std.proofs.lemmas.Result.{err_from_is_err_and}
use Rattle.address_grammar.specs.declared.AddressFault.TheVariants.{Malformed}
use Rattle.address_grammar.proofs.PathLemmas.{fault_is}
use Rattle.std.proofs.lemmas.Result.{on_ok_weaker}
use Rattle.encoded_words.proofs.LineLemmas.{adds_none}
use Rattle.address_lists.proofs.WritableTokens.{before_can}
use Rattle.address_lists.proofs.AddedPieces.{more_added}
use Rattle.address_lists.proofs.ListRewriting.{places_start, places_adds, places_all, places_stuck, places_stuck_last}
use Rattle.address_lists.proofs.rewriting.write_places.Goals as goal

pub loop-place-init : goal.loop-place-init
loop-place-init c = adds_none _ (places_start _ c.requires)

pub write_followed-requires : goal.write_followed-requires
write_followed-requires c = let s = c.in-Some.ensures.found in before_can _ _ _ s.comma s.whole c.loop-place.invariant.holds.can

pub returns-in_err-write_followed-clause-malformed : goal.returns-in_err-write_followed-clause-malformed
returns-in_err-write_followed-clause-malformed c = λ e es.
    let p = err_from_is_err_and c.from_residual.result c.from_residual.ensures.1 in
    let same : c.in_err-write_followed.field-0.0 ≡ Malformed = fault_is c.from_residual.result p.0 _ p.1 p.2 e in
    places_stuck _ _ _ _ _ c.loop-place.invariant.holds c.in-Some.ensures.found (c.in_err-write_followed.ensures.malformed (ap Err same)) es

pub returns-in_err-write_followed-clause-more : goal.returns-in_err-write_followed-clause-more
returns-in_err-write_followed-clause-more c = λ e.
    let p = err_from_is_err_and c.from_residual.result c.from_residual.ensures.1 in
    let same : c.in_err-write_followed.field-0.0 ≡ Malformed = fault_is c.from_residual.result p.0 _ p.1 p.2 e in
    more_added c.loop-place.invariant (c.in_err-write_followed.ensures.unchanged (ap Err same))

pub loop-place-preserved : goal.loop-place-preserved
loop-place-preserved c = places_adds _ _ _ _ _ _ _ c.in-Some.ensures.found c.loop-place.invariant c.in_ok-write_followed.ensures.ok

pub write_place-requires : goal.write_place-requires
write_place-requires c = c.loop-place.invariant.holds.can

pub returns-clause-ok : goal.returns-clause-ok
returns-clause-ok c = on_ok_weaker c.write_place.result (λ a. places_all _ _ _ _ _ c.loop-place.invariant a) c.write_place.ensures.ok

pub returns-clause-malformed : goal.returns-clause-malformed
returns-clause-malformed c = λ e es. places_stuck_last _ _ _ c.loop-place.invariant.holds c.in_default.ensures.none (c.write_place.ensures.malformed e) es

pub returns-clause-more : goal.returns-clause-more
returns-clause-more c = λ e. more_added c.loop-place.invariant (c.write_place.ensures.unchanged e)
