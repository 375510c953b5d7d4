use Rattle.std.proofs.Common.{arith, sym, ◌∙◌}
use Rattle.mime_tree.proofs.SectionLemmas.{search_ends, child_passed, other_passed, search_fails}
use Rattle.mime_tree.proofs.sections.child.Goals as goal
use Rattle.mime_tree.proofs.sections.child.Goals.{then-is_in+else-left-eq0, else-is_in}

pub returns-then-left-eq0 : goal.returns-then-left-eq0
returns-then-left-eq0 g c =
    sym (c.loop-place.invariant ∙ search_ends g.E.Outlined.outlined c.args.entities.now c.loop-place.place c.args.number c.loop-place.left _ _ c.loop-place-test.true c.index-entities-place.is c.outline.ensures
    (sym c.if-is_in.ensures) c.if-left-eq0.true)

pub loop-place-preserved : goal.loop-place-preserved
loop-place-preserved g c = c.loop-place.invariant ∙ elim c.if-is_in.branch [
  | then-is_in+else-left-eq0 w ↦ child_passed g.E.Outlined.outlined c.args.entities.now c.loop-place.place c.args.number c.loop-place.left c.if-is_in.left _ _ c.loop-place-test.true c.index-entities-place.is c.outline.ensures
      (sym w.if-is_in.ensures) (omega arith) w.left-is
  | else-is_in w ↦ rw w.left-is
      (other_passed g.E.Outlined.outlined c.args.entities.now c.loop-place.place c.args.number c.loop-place.left _ _ c.loop-place-test.true c.index-entities-place.is c.outline.ensures (sym w.if-is_in.ensures))
]

pub returns : goal.returns
returns g c = sym (c.loop-place.invariant ∙ search_fails g.E.Outlined.outlined c.args.entities.now c.loop-place.place c.args.number c.loop-place.left c.loop-place-test.false)
