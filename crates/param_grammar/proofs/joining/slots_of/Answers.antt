use Rattle.std.proofs.Common.{◌+◌, length, map, take, drop, ◌∙◌}
use Rattle.param_grammar.specs.Places.{no_piece, piece_in}
use Rattle.param_grammar.proofs.SlotLemmas.{AreSlots-more, not-AreNumbered-taken}
use Rattle.param_grammar.proofs.joining.slots_of.Goals as goal

pub loop-part-init : goal.loop-part-init
loop-part-init c =
    ((c.in_ok-slots.ensures.empty (λ n. no_piece)).count_is, c.in_ok-slots.ensures.within (length c.args.places.now), λ pieces placed. c.in_ok-slots.ensures.empty (piece_in pieces))

pub returns-then-not-put_part-clause-none : goal.returns-then-not-put_part-clause-none
returns-then-not-put_part-clause-none c pieces placed =
    let parts = c.args.parts.now in
    let i = c.loop-part.part-index in
    not-AreNumbered-taken (piece_in pieces) parts i c.loop-part.slots.items c.loop-part-test.true c.loop-part.invariant.0 (c.loop-part.invariant.2 pieces placed)
    (λ are count. c.put_part.ensures.taken pieces (map (piece_in pieces) (take i parts)) (map (piece_in pieces) (drop (i + 1) parts)) placed (c.requires i 0 c.loop-part-test.true) are count
    c.if-not-put_part.true)

pub loop-part-preserved : goal.loop-part-preserved
loop-part-preserved c =
    let parts = c.args.parts.now in
    let i = c.loop-part.part-index in
    let small = c.requires i 0 c.loop-part-test.true in (
      c.put_part.ensures.counted ∙ c.loop-part.invariant.0,
      c.put_part.ensures.within (length c.args.places.now) c.loop-part.invariant.1 small,
      λ pieces placed. AreSlots-more (piece_in pieces) parts i c.loop-part.slots.items c.put_part.new.slots.items c.loop-part-test.true c.loop-part.invariant.0
          (c.loop-part.invariant.2 pieces placed) (λ are. c.put_part.ensures.put pieces (map (piece_in pieces) (take i parts)) placed small are c.if-not-put_part.false),
    )
