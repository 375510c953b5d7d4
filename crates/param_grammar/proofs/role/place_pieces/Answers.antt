use Rattle.std.proofs.Common.{sym, ◌∙◌}
use Rattle.param_grammar.specs.private.Roles.{AreLowered}
use Rattle.param_grammar.proofs.PlaceLemmas.{ArePlaced-length}
use Rattle.param_grammar.proofs.role.place_pieces.Goals as goal

pub returns-clause-found : goal.returns-clause-found
returns-clause-found c pieces placed =
    let lowered : AreLowered c.args.text.now c.in_ok-lower.lower c.args.places.items pieces = record { are_placed = placed; lower_is = c.in_ok-lower.ensures } in
    record {
      are_placed = placed;
      lower_is = c.in_ok-lower.ensures;
      in_order = rw (c.as_slice.ensures, c.as_slice-2.ensures.value) at c.in_ok-order.ensures;
      counted = (rw (c.in-Some.is, c.as_slice-2.ensures.value) at c.in_ok-roles.ensures.counted) ∙ sym (ArePlaced-length c.args.text.now c.args.places.items pieces placed);
      roles = λ number other l. (rw (c.in-Some.is, c.as_slice.ensures, c.as_slice-2.ensures.value) at c.in_ok-roles.ensures.found) pieces lowered number l other;
      are_numbered = (rw (c.in-Some.is, c.as_slice.ensures, c.as_slice-2.ensures.value) at c.in_ok-roles.ensures.numbered) pieces lowered;
    }
