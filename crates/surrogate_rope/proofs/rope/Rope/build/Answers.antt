use Rattle.std.proofs.Common.{map, rules}
use Rattle.mime_tree.specs.Outlines.{seen_outline}
use Rattle.surrogate_rope.proofs.BuiltRopes.{built_rope, built_new, built_places, built_parents}
use Rattle.surrogate_rope.proofs.OwnSurrogates.{own_rope}
use Rattle.surrogate_rope.proofs.rope.Rope.build.Goals as goal

pub moved_outlines-requires-clause-places : goal.moved_outlines-requires-clause-places
moved_outlines-requires-clause-places c =
    rw c.as_slice.ensures (built_places c.args.msg.now c.args.tree.now.entities c.requires (search rules))

pub invariant_of-result : goal.invariant_of-result
invariant_of-result c =
    (c.in_ok-made.ensures.few, built_parents c.args.msg.now c.args.tree.now.entities _ _ c.requires (rw c.as_slice.ensures at c.in_ok-outlines.ensures) (search rules))

pub returns-clause-rope : goal.returns-clause-rope
returns-clause-rope c =
    built_rope c.args.msg.now c.args.tree.now.entities c.in_ok-made.made c.in_ok-made.ends.items (map seen_outline c.in_ok-outlines.outlines.items) c.requires c.in_ok-made.ensures
    (rw (c.as_slice.ensures, c.deref.ensures.value) at c.in_ok-outlines.ensures)

pub returns-clause-new : goal.returns-clause-new
returns-clause-new c = built_new c.args.msg.now c.args.tree.now.entities c.in_ok-made.made c.in_ok-made.ends.items (map seen_outline c.in_ok-outlines.outlines.items) c.in_ok-made.ensures

pub returns-clause-own : goal.returns-clause-own
returns-clause-own c =
    own_rope c.args.msg.now (record { pieces = c.in_ok-made.made.pieces; entities = map seen_outline c.in_ok-outlines.outlines.items; rewritten = c.in_ok-made.made.rewritten })
    (built_rope c.args.msg.now c.args.tree.now.entities c.in_ok-made.made c.in_ok-made.ends.items (map seen_outline c.in_ok-outlines.outlines.items) c.requires c.in_ok-made.ensures
    (rw (c.as_slice.ensures, c.deref.ensures.value) at c.in_ok-outlines.ensures))
