use Rattle.std.proofs.Common.{◌∙◌, ap, length, ◌-◌, arith, length-append}
use Rattle.surrogate_rope.proofs.PieceLemmas.{new_pushed_at, new_counted, few_new}
use Rattle.surrogate_rope.proofs.pieces.Pieces.push_new.Goals as goal

pub add_piece-self-inside-requires-clause-size : goal.add_piece-self-inside-requires-clause-size
add_piece-self-inside-requires-clause-size c =
    omega (arith, new_counted c.self.inside.octets c.args.octets.now c.self.inside.pieces.items c.self.inside.size c.self.invariant (rw (c.as_slice.ensures, c.in_ok-push_slice.ensures.ok) at c.count_of-end.ensures.few))

pub invariant_of-self-2 : goal.invariant_of-self-2
invariant_of-self-2 c =
    rw (c.add_piece-self-inside.ensures.added, c.add_piece-self-inside.ensures.size, c.in_ok-reserve.ensures.items, c.in_ok-push_slice.ensures.ok)
    (new_pushed_at c.self.inside.octets c.args.octets.now c.self.inside.pieces.items c.self.inside.size (c.count_of-end.result - length c.args.octets.now) c.self.invariant (rw (c.as_slice.ensures, c.in_ok-push_slice.ensures.ok) at c.count_of-end.ensures.few) (omega (arith, c.count_of-end.ensures.count, ap length (c.as_slice.ensures ∙ c.in_ok-push_slice.ensures.ok), length-append c.self.inside.octets c.args.octets.now))).has

pub returns-clause-pieces : goal.returns-clause-pieces
returns-clause-pieces c =
    rw (c.add_piece-self-inside.ensures.added, c.in_ok-reserve.ensures.items, c.in_ok-push_slice.ensures.ok, ← c.self.view_is)
    (new_pushed_at c.self.inside.octets c.args.octets.now c.self.inside.pieces.items c.self.inside.size (c.count_of-end.result - length c.args.octets.now) c.self.invariant (rw (c.as_slice.ensures, c.in_ok-push_slice.ensures.ok) at c.count_of-end.ensures.few) (omega (arith, c.count_of-end.ensures.count, ap length (c.as_slice.ensures ∙ c.in_ok-push_slice.ensures.ok), length-append c.self.inside.octets c.args.octets.now))).seen_is

pub returns-clause-few : goal.returns-clause-few
returns-clause-few c =
    rw (c.add_piece-self-inside.ensures.added, c.in_ok-reserve.ensures.items, c.in_ok-push_slice.ensures.ok)
    (few_new _ _ _ (new_pushed_at c.self.inside.octets c.args.octets.now c.self.inside.pieces.items c.self.inside.size (c.count_of-end.result - length c.args.octets.now) c.self.invariant (rw (c.as_slice.ensures, c.in_ok-push_slice.ensures.ok) at c.count_of-end.ensures.few) (omega (arith, c.count_of-end.ensures.count, ap length (c.as_slice.ensures ∙ c.in_ok-push_slice.ensures.ok), length-append c.self.inside.octets c.args.octets.now))).has)
