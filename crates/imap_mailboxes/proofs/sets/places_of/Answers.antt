use Rattle.std.proofs.Common.{◌++◌, ◌-◌, get_or, sym, ap, ◌∙◌}
use Rattle.std.proofs.lemmas.List.{get_or_default}
use Rattle.std.specs.List.{range_with_len}
use Rattle.imap_mailboxes.specs.private.Stretches.{places_below}
use Rattle.imap_mailboxes.proofs.StretchLemmas.{done_more, stretch_told, all_told}
use Rattle.imap_mailboxes.proofs.sets.places_of.Goals as goal

pub loop-stretch-preserved : goal.loop-stretch-preserved
loop-stretch-preserved c =
    let stretches = c.args.stretches.now in
    let i = c.loop-stretch.stretch-index in
    let next = c.loop-stretch.next in
    let one = get_or stretches i (record { from = 0; to = 0 }) in
    let is = get_or_default stretches i (record { from = 0; to = 0 }) one c.loop-stretch-test.true in (
      c.in_ok-push_places.ensures
          ∙ (ap (λ z. z ++ range_with_len c.max.result (one.to - c.max.result)) c.loop-stretch.invariant.0
          ∙ (ap (λ m. places_below stretches next ++ range_with_len m (one.to - m)) c.max.ensures
          ∙ (stretch_told stretches i next one c.requires c.loop-stretch.invariant.1 c.loop-stretch-test.true is ∙ ap (places_below stretches) (sym c.max-next.ensures)))),
      rw c.max-next.ensures (done_more stretches i next one c.loop-stretch.invariant.1 c.loop-stretch-test.true is),
    )

pub returns : goal.returns
returns c = λ count within. c.loop-stretch.invariant.0 ∙ all_told c.args.stretches.now c.loop-stretch.stretch-index c.loop-stretch.next count c.loop-stretch.invariant.1 c.loop-stretch-test.false within
