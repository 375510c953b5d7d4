use Rattle.std.proofs.Common.{◌∙◌, sym, map, Some, None}
use Rattle.mime_tree.proofs.SectionLemmas.{path_read, path_ends}
use Rattle.mime_tree.proofs.sections.named_by.Goals as goal

pub returns-in_err-number-2 : goal.returns-in_err-number-2
returns-in_err-number-2 g c =
    c.from_residual-in_err-number-2.ensures ∙ sym (c.loop-n.invariant ∙ path_read (map g.E.Outlined.outlined c.args.entities.now) c.in_ok-first.rest.now c.loop-n.n-index c.loop-n.number None c.loop-n-test.true c.in_err-number-2.ensures)

pub loop-n-preserved : goal.loop-n-preserved
loop-n-preserved g c =
    c.loop-n.invariant ∙ path_read (map g.E.Outlined.outlined c.args.entities.now) c.in_ok-first.rest.now c.loop-n.n-index c.loop-n.number (Some c.in_ok-number-2.number) c.loop-n-test.true c.in_ok-number-2.ensures

pub returns : goal.returns
returns g c = sym (c.loop-n.invariant ∙ path_ends (map g.E.Outlined.outlined c.args.entities.now) c.in_ok-first.rest.now c.loop-n.n-index c.loop-n.number c.loop-n-test.false)
