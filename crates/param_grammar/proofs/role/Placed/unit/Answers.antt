use Rattle.std.proofs.Common.{◌≡◌, ◌<◌, true, false, length, map, All, sym, ap, ◌∙◌, subst}
use Rattle.std.specs.Prelude.{is_some}
use Rattle.std.proofs.lemmas.Bool.{not-true, not-false}
use Rattle.std.proofs.lemmas.List.Elements.{All-filter}
use Rattle.std.proofs.lemmas.Result.{IfOk-weaker}
use Rattle.encoded_words.specs.private.Values.{value_of}
use Rattle.param_grammar.specs.Extended.{unit_of}
use Rattle.param_grammar.specs.Joining.{AreNumbered, unit_at}
use Rattle.param_grammar.specs.Places.{ArePlaced, piece_in}
use Rattle.param_grammar.specs.private.Ordered.{numbered_in}
use Rattle.param_grammar.specs.private.Roles.{AreLowered, IsNameRun}
use Rattle.param_grammar.proofs.PlacedFacts.{placed_read}
use Rattle.param_grammar.proofs.PlacedUnits.{unit_of_whole, unit_of_made}
use Rattle.param_grammar.proofs.RunLemmas.{parts_are, passing_below}
use Rattle.param_grammar.proofs.role.Placed.unit.Goals as goal

pub whole_unit-requires : goal.whole_unit-requires
whole_unit-requires c =
    let pieces = c.requires.placed.0 in
    let has = c.requires.placed.1 in
    (piece_in pieces c.args.number, placed_read c.args.text.now c.args.self.now.places.items pieces c.args.number c.index-place.result.now has.are_placed c.requires.number c.index-place.ensures)

pub returns-then-not-place : goal.returns-then-not-place
returns-then-not-place c pieces has =
    let piece = piece_in pieces c.args.number in
    let at = placed_read c.args.text.now c.args.self.now.places.items pieces c.args.number c.index-place.result.now has.are_placed c.requires.number c.index-place.ensures in
    let whole : is_some piece.number ≡ false = at.numbered_is ∙ not-true _ c.if-not-place.true in
    IfOk-weaker c.whole_unit.result (λ unit. value_of unit ≡ unit_of piece.charset piece.octets) (λ unit. value_of unit ≡ unit_at pieces piece)
    (λ unit says. unit_of_whole pieces piece (value_of unit) whole says) (c.whole_unit.ensures piece at)

pub in_order-requires : goal.in_order-requires
in_order-requires c =
    let count = length c.as_slice-2.result.now in
    let within : All (λ part. part < count) c.run_of.result.now = subst (All (λ part. part < count)) (sym c.run_of.ensures) (passing_below _ count) in
    subst (All (λ part. part < count)) (sym (c.deref-2.ensures.value ∙ c.in_ok-parts.ensures)) (All-filter (numbered_in c.as_slice-2.result.now) (λ part. part < count) c.run_of.result.now within)

pub unreachable-requires : goal.unreachable-requires
unreachable-requires c =
    let pieces = c.requires.placed.0 in
    let has = c.requires.placed.1 in
    let are = subst (λ ps. ArePlaced c.args.text.now ps pieces) (sym c.as_slice-2.ensures.value) has.are_placed in
    let l = subst (λ ps. c.args.number < length ps) (sym c.as_slice-2.ensures.value) c.requires.number in
    let lowered : AreLowered c.args.text.now c.as_slice.result.now c.as_slice-2.result.now pieces = record { are_placed = are; lower_is = c.as_slice.ensures ∙ has.lower_is } in
    let own : IsNameRun c.as_slice.result.now c.as_slice-2.result.now c.run_of.result.now c.args.number = record { within = l; run_is = c.run_of.ensures } in
    let named = ap (map (piece_in pieces)) (c.deref-2.ensures.value ∙ c.in_ok-parts.ensures) ∙ parts_are c.args.text.now c.as_slice.result.now c.as_slice-2.result.now pieces lowered c.run_of.result.now c.args.number own in
    (rw (c.in-None.is) at (c.in_ok-made.ensures.none pieces are)) (subst AreNumbered (sym named) (has.are_numbered (piece_in pieces c.args.number).base))

pub returns : goal.returns
returns c pieces has =
    let piece = piece_in pieces c.args.number in
    let are = subst (λ ps. ArePlaced c.args.text.now ps pieces) (sym c.as_slice-2.ensures.value) has.are_placed in
    let l = subst (λ ps. c.args.number < length ps) (sym c.as_slice-2.ensures.value) c.requires.number in
    let at = placed_read c.args.text.now c.args.self.now.places.items pieces c.args.number c.index-place.result.now has.are_placed c.requires.number c.index-place.ensures in
    let part : is_some piece.number ≡ true = at.numbered_is ∙ not-false _ c.if-not-place.false in
    let lowered : AreLowered c.args.text.now c.as_slice.result.now c.as_slice-2.result.now pieces = record { are_placed = are; lower_is = c.as_slice.ensures ∙ has.lower_is } in
    let own : IsNameRun c.as_slice.result.now c.as_slice-2.result.now c.run_of.result.now c.args.number = record { within = l; run_is = c.run_of.ensures } in
    let named = ap (map (piece_in pieces)) (c.deref-2.ensures.value ∙ c.in_ok-parts.ensures) ∙ parts_are c.args.text.now c.as_slice.result.now c.as_slice-2.result.now pieces lowered c.run_of.result.now c.args.number own in
    let order = ap (map (piece_in pieces)) c.deref-in-Some.ensures.value ∙ (rw (c.in-Some.is) at (c.in_ok-made.ensures.found pieces are)) in
    IfOk-weaker c.joined_unit.result _ (λ unit. value_of unit ≡ unit_at pieces piece)
    (λ unit says. unit_of_made pieces piece c.deref-2.result.now c.deref-in-Some.result.now (value_of unit) part (has.are_numbered piece.base) named order says)
    (c.joined_unit.ensures pieces are)
