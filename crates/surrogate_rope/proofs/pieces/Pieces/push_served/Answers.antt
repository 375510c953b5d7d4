use Rattle.std.proofs.Common.{◌∙◌, ap, length}
use Rattle.surrogate_rope.proofs.PieceLemmas.{served_steps, few_new}
use Rattle.surrogate_rope.proofs.pieces.Pieces.push_served.Goals as goal

pub add_range-self-inside-requires-clause-size : goal.add_range-self-inside-requires-clause-size
add_range-self-inside-requires-clause-size c =
    let puts = rw c.if-not-is_new.false at c.in-Ok.ensures in
    let steps = served_steps c.self.inside.octets puts.0 c.push_downgraded.new.made c.self.inside.pieces.items c.self.inside.size c.len-at.result c.count_of.result c.args.kept c.self.invariant (rw c.self.view_is c.requires.kept) puts.3
    (c.count_of.ensures.count ∙ ap length c.as_slice.ensures) (rw c.as_slice.ensures at c.count_of.ensures.few) c.len-at.ensures in
    steps.room

pub add_piece-self-inside-requires-clause-size : goal.add_piece-self-inside-requires-clause-size
add_piece-self-inside-requires-clause-size c =
    let puts = rw c.if-not-is_new.false at c.in-Ok.ensures in
    let steps = served_steps c.self.inside.octets puts.0 c.push_downgraded.new.made c.self.inside.pieces.items c.self.inside.size c.len-at.result c.count_of.result c.args.kept c.self.invariant (rw c.self.view_is c.requires.kept) puts.3
    (c.count_of.ensures.count ∙ ap length c.as_slice.ensures) (rw c.as_slice.ensures at c.count_of.ensures.few) c.len-at.ensures in
    rw c.add_range-self-inside.ensures.size steps.more

pub invariant_of-self-2 : goal.invariant_of-self-2
invariant_of-self-2 c =
    let puts = rw c.if-not-is_new.false at c.in-Ok.ensures in
    let steps = served_steps c.self.inside.octets puts.0 c.push_downgraded.new.made c.self.inside.pieces.items c.self.inside.size c.len-at.result c.count_of.result c.args.kept c.self.invariant (rw c.self.view_is c.requires.kept) puts.3
    (c.count_of.ensures.count ∙ ap length c.as_slice.ensures) (rw c.as_slice.ensures at c.count_of.ensures.few) c.len-at.ensures in
    rw (c.add_piece-self-inside.ensures.added, c.add_range-self-inside.ensures.added, c.add_piece-self-inside.ensures.size, c.add_range-self-inside.ensures.size, c.in_ok-reserve.ensures.items) steps.third.has

pub returns-clause-pieces : goal.returns-clause-pieces
returns-clause-pieces c =
    let puts = rw c.if-not-is_new.false at c.in-Ok.ensures in
    let steps = served_steps c.self.inside.octets puts.0 c.push_downgraded.new.made c.self.inside.pieces.items c.self.inside.size c.len-at.result c.count_of.result c.args.kept c.self.invariant (rw c.self.view_is c.requires.kept) puts.3
    (c.count_of.ensures.count ∙ ap length c.as_slice.ensures) (rw c.as_slice.ensures at c.count_of.ensures.few) c.len-at.ensures in
    (puts.0, puts.1, puts.2, rw (c.add_piece-self-inside.ensures.added, c.add_range-self-inside.ensures.added, c.add_range-self-inside.ensures.size, c.in_ok-reserve.ensures.items, ← c.self.view_is) steps.third.seen_is)

pub returns-clause-few : goal.returns-clause-few
returns-clause-few c =
    let puts = rw c.if-not-is_new.false at c.in-Ok.ensures in
    let steps = served_steps c.self.inside.octets puts.0 c.push_downgraded.new.made c.self.inside.pieces.items c.self.inside.size c.len-at.result c.count_of.result c.args.kept c.self.invariant (rw c.self.view_is c.requires.kept) puts.3
    (c.count_of.ensures.count ∙ ap length c.as_slice.ensures) (rw c.as_slice.ensures at c.count_of.ensures.few) c.len-at.ensures in
    rw (c.add_piece-self-inside.ensures.added, c.add_range-self-inside.ensures.added, c.add_range-self-inside.ensures.size, c.in_ok-reserve.ensures.items) (few_new _ _ _ steps.third.has)
