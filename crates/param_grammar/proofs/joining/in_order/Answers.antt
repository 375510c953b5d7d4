use Rattle.std.proofs.Common.{◌<◌, length, map, sym, subst, None}
use Rattle.std.specs.List.{All}
use Rattle.std.proofs.lemmas.List.Elements.{All-push}
use Rattle.param_grammar.specs.Places.{piece_in}
use Rattle.param_grammar.proofs.SlotLemmas.{HoldBelow-at, count_of, free_at, made_at}
use Rattle.param_grammar.proofs.joining.in_order.Goals as goal

pub returns-in_default-slot-clause-none : goal.returns-in_default-slot-clause-none
returns-in_default-slot-clause-none c pieces placed =
    let parts = c.args.parts.now in
    free_at (piece_in pieces) (map (piece_in pieces) parts) c.in-Some.slots.items c.deref-slot-items.result.now c.loop-slot.slot-index (length parts) None (count_of (piece_in pieces) parts)
    (rw (c.in-Some.is) at (c.in_ok-slots.ensures.found pieces placed)) c.deref-slot-items.ensures.value c.loop-slot-test.true c.in_default-slot.is

pub loop-slot-preserved : goal.loop-slot-preserved
loop-slot-preserved c =
    let parts = c.args.parts.now in
    let small = HoldBelow-at (length c.args.places.now) c.in-Some.slots.items c.deref-slot-items.result.now c.loop-slot.slot-index c.in-Some-slot.part None
    (rw (c.in-Some.is) at c.in_ok-slots.ensures.within) c.deref-slot-items.ensures.value c.loop-slot-test.true c.in-Some-slot.is in (
      subst (All (λ part. part < length c.args.places.now)) (sym c.in_ok-push.ensures.items) (All-push (λ part. part < length c.args.places.now) c.loop-slot.made.items c.in-Some-slot.part c.loop-slot.invariant.0 small),
      λ pieces placed. made_at (piece_in pieces) (map (piece_in pieces) parts) c.loop-slot.made.items c.push.new.self.items c.in-Some.slots.items c.deref-slot-items.result.now c.loop-slot.slot-index
          (length parts) None c.in-Some-slot.part (count_of (piece_in pieces) parts) (rw (c.in-Some.is) at (c.in_ok-slots.ensures.found pieces placed)) c.deref-slot-items.ensures.value
          c.loop-slot-test.true c.in-Some-slot.is c.in_ok-push.ensures.items (c.loop-slot.invariant.1 pieces placed),
    )
