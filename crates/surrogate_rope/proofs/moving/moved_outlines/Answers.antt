use Rattle.std.proofs.Common.{◌∙◌, ap, map}
use Rattle.std.proofs.lemmas.List.{take_all}
use Rattle.mime_tree.specs.Outlines.{outlines_of}
use Rattle.mime_tree.specs.Rewriting.{moved_outline}
use Rattle.surrogate_rope.specs.private.Moving.{moved_by}
use Rattle.surrogate_rope.proofs.EndLemmas.{outline_moved, places_at}
use Rattle.surrogate_rope.proofs.moving.moved_outlines.Goals as goal

pub moved_to-requires-clause-places : goal.moved_to-requires-clause-places
moved_to-requires-clause-places c =
    places_at c.args.entities.now c.loop-entity.entity-index c.entity-item.result c.outline.result c.requires.places c.loop-entity-test.true c.entity-item.is c.outline.ensures

pub loop-entity-preserved : goal.loop-entity-preserved
loop-entity-preserved c =
    rw c.in_ok-push.ensures.items
    (outline_moved (moved_by 0 0 c.args.ends.now) c.args.entities.now c.loop-entity.entity-index c.entity-item.result c.loop-entity.outlines.items c.outline.result c.moved_to.result c.loop-entity-test.true c.entity-item.is
    c.loop-entity.invariant c.outline.ensures c.moved_to.ensures)

pub returns : goal.returns
returns c =
    c.loop-entity.invariant
    ∙ ap (λ entities. map (moved_outline (moved_by 0 0 c.args.ends.now)) (outlines_of entities)) (take_all c.loop-entity.entity-index c.args.entities.now c.loop-entity-test.false)
