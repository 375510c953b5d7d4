use Rattle.std.proofs.Common.{◌≡◌, Err, ap}
use Rattle.std.proofs.lemmas.Result.{err_from_is_err_and}
use Rattle.address_grammar.specs.declared.AddressFault.TheVariants.{Malformed}
use Rattle.address_grammar.proofs.PathLemmas.{fault_is}
use Rattle.std.proofs.lemmas.Result.{on_ok_weaker}
use Rattle.encoded_words.proofs.LineLemmas.{adds_none, adds_both}
use Rattle.address_lists.proofs.AddedPieces.{more_added}
use Rattle.address_lists.proofs.PhraseListLemmas.{phrases_start, place_can, phrases_adds, phrases_end, phrases_stuck, phrases_stuck_last}
use Rattle.address_lists.proofs.phrase_lists.write_phrases.Goals as goal

pub loop-place-init : goal.loop-place-init
loop-place-init c = adds_none _ (phrases_start _ (record { utf8 = c.requires.utf8; comments = c.requires.comments }))

pub push_phrase-requires-clause-utf8 : goal.push_phrase-requires-clause-utf8
push_phrase-requires-clause-utf8 c = (place_can _ _ _ _ _ c.loop-place.invariant.holds c.in-Some.ensures.found).utf8

pub push_phrase-requires-clause-comments : goal.push_phrase-requires-clause-comments
push_phrase-requires-clause-comments c = (place_can _ _ _ _ _ c.loop-place.invariant.holds c.in-Some.ensures.found).comments

pub returns-in_err-push_phrase-clause-malformed : goal.returns-in_err-push_phrase-clause-malformed
returns-in_err-push_phrase-clause-malformed c = λ e us.
    let p = err_from_is_err_and c.from_residual.result c.from_residual.ensures.1 in
    let same : c.in_err-push_phrase.field-0.0 ≡ Malformed = fault_is c.from_residual.result p.0 _ p.1 p.2 e in
    phrases_stuck _ _ _ _ _ c.loop-place.invariant.holds c.in-Some.ensures.found (c.in_err-push_phrase.ensures.malformed (ap Err same)) us

pub returns-in_err-push_phrase-clause-more : goal.returns-in_err-push_phrase-clause-more
returns-in_err-push_phrase-clause-more c = λ e.
    let p = err_from_is_err_and c.from_residual.result c.from_residual.ensures.1 in
    let same : c.in_err-push_phrase.field-0.0 ≡ Malformed = fault_is c.from_residual.result p.0 _ p.1 p.2 e in
    more_added c.loop-place.invariant (c.in_err-push_phrase.ensures.unchanged (ap Err same))

pub loop-place-preserved : goal.loop-place-preserved
loop-place-preserved c = phrases_adds _ _ _ _ _ _ _ _ c.in-Some.ensures.found c.loop-place.invariant c.in_ok-push_phrase.ensures.ok c.in-Ok.ensures

pub push_phrase-requires-2-clause-utf8 : goal.push_phrase-requires-2-clause-utf8
push_phrase-requires-2-clause-utf8 c = c.loop-place.invariant.holds.can.utf8

pub push_phrase-requires-2-clause-comments : goal.push_phrase-requires-2-clause-comments
push_phrase-requires-2-clause-comments c = c.loop-place.invariant.holds.can.comments

pub returns-clause-ok : goal.returns-clause-ok
returns-clause-ok c = on_ok_weaker c.push_phrase-2.result (λ a. adds_both (λ xs ys p q. phrases_end _ _ xs ys p q) c.loop-place.invariant a) c.push_phrase-2.ensures.ok

pub returns-clause-malformed : goal.returns-clause-malformed
returns-clause-malformed c = λ e us. phrases_stuck_last _ _ _ c.loop-place.invariant.holds c.in_default.ensures.none (c.push_phrase-2.ensures.malformed e) us

pub returns-clause-more : goal.returns-clause-more
returns-clause-more c = λ e. more_added c.loop-place.invariant (c.push_phrase-2.ensures.unchanged e)
