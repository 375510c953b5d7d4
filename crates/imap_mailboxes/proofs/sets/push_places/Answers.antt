use Rattle.std.proofs.Common.{◌≡◌, ◌++◌, ◌∷◌, [], ◌-◌, sym, ap, ◌∙◌, arith, append_assoc, append-nil}
use Rattle.std.specs.List.{range_with_len}
use Rattle.imap_mailboxes.proofs.StretchLemmas.{range_push}
use Rattle.imap_mailboxes.proofs.sets.push_places.Goals as goal

pub loop-place-init : goal.loop-place-init
loop-place-init c =
    let none : c.args.from - c.args.from ≡ 0 = omega arith in
    (sym (ap (λ n. c.args.places.now.items ++ range_with_len c.args.from n) none ∙ append-nil c.args.places.now.items), omega arith)

pub loop-place-preserved : goal.loop-place-preserved
loop-place-preserved c = (
  c.in_ok-push.ensures.items ∙ (ap (λ z. z ++ c.loop-place.place ∷ []) c.loop-place.invariant.0
      ∙ (append_assoc c.args.places.now.items (range_with_len c.args.from (c.loop-place.place - c.args.from)) (c.loop-place.place ∷ [])
      ∙ ap (λ z. c.args.places.now.items ++ z) (sym (range_push c.args.from c.loop-place.place c.loop-place.auto.place)))),
  omega arith,
)

pub returns : goal.returns
returns c =
    let so_many : c.loop-place.place - c.args.from ≡ c.args.to - c.args.from = omega (arith, c.loop-place.invariant.1) in
    c.loop-place.invariant.0 ∙ ap (λ n. c.args.places.now.items ++ range_with_len c.args.from n) so_many
