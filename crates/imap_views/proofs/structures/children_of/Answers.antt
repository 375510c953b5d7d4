use Rattle.std.proofs.Common.{refl}
use Rattle.imap_views.proofs.Children.{children_none, children_alone, children_more, children_all}
use Rattle.imap_views.proofs.structures.children_of.Goals as goal
use Rattle.imap_views.proofs.structures.children_of.Goals.{in-Some+in_ok-push_at, in_default}

pub loop-number-init : goal.loop-number-init
loop-number-init c = children_none c.args.outlines.now _ c.in_ok-children.ensures

pub loop-number-preserved : goal.loop-number-preserved
loop-number-preserved c =
    let outlines = c.args.outlines.now in
    let at = c.loop-number.number in
    let before = c.loop-number.invariant in
    elim c.match-outline.branch [
      | in-Some+in_ok-push_at w ↦
          rw w.children-is (children_more outlines at _ w.in-Some.parent c.loop-number.children.items _ c.loop-number-test.true refl w.in-Some.is w.in_ok-push_at.ensures before)
      | in_default w ↦ rw w.children-is (children_alone outlines at _ c.loop-number.children.items c.loop-number-test.true refl w.in_default.is before)
    ]

pub returns : goal.returns
returns c = children_all c.args.outlines.now c.loop-number.number c.loop-number.children.items c.loop-number-test.false c.loop-number.invariant
