use Rattle.field_downgrade.proofs.Rewriting.{first_served}
use Rattle.field_downgrade.proofs.field.downgrade_field.Goals as goal

pub returns-then-branch-clause-layout : goal.returns-then-branch-clause-layout
returns-then-branch-clause-layout c =
    let served = first_served c.args.open_global c.args.raw.now _ c.push_downgraded.new.made c.new-made.ensures (rw c.if-branch.true at c.in_ok-push_downgraded.ensures) in served.0.layout

pub returns-else-branch-clause-layout : goal.returns-else-branch-clause-layout
returns-else-branch-clause-layout c =
    let served = rw c.if-branch.false at c.in_ok-push_downgraded.ensures in served.0.layout

pub returns-then-branch-clause-stands : goal.returns-then-branch-clause-stands
returns-then-branch-clause-stands c =
    let served = first_served c.args.open_global c.args.raw.now _ c.push_downgraded.new.made c.new-made.ensures (rw c.if-branch.true at c.in_ok-push_downgraded.ensures) in served.0.stands

pub returns-else-branch-clause-stands : goal.returns-else-branch-clause-stands
returns-else-branch-clause-stands c =
    let served = rw c.if-branch.false at c.in_ok-push_downgraded.ensures in served.0.stands

pub returns-then-branch-clause-ascii : goal.returns-then-branch-clause-ascii
returns-then-branch-clause-ascii c =
    let served = first_served c.args.open_global c.args.raw.now _ c.push_downgraded.new.made c.new-made.ensures (rw c.if-branch.true at c.in_ok-push_downgraded.ensures) in served.0.ascii

pub returns-else-branch-clause-ascii : goal.returns-else-branch-clause-ascii
returns-else-branch-clause-ascii c =
    let served = rw c.if-branch.false at c.in_ok-push_downgraded.ensures in served.0.ascii

pub returns-then-branch-clause-lines : goal.returns-then-branch-clause-lines
returns-then-branch-clause-lines c =
    let served = first_served c.args.open_global c.args.raw.now _ c.push_downgraded.new.made c.new-made.ensures (rw c.if-branch.true at c.in_ok-push_downgraded.ensures) in served.0.lines

pub returns-else-branch-clause-lines : goal.returns-else-branch-clause-lines
returns-else-branch-clause-lines c =
    let served = rw c.if-branch.false at c.in_ok-push_downgraded.ensures in served.0.lines

pub returns-then-branch-clause-keep : goal.returns-then-branch-clause-keep
returns-then-branch-clause-keep c =
    let served = first_served c.args.open_global c.args.raw.now _ c.push_downgraded.new.made c.new-made.ensures (rw c.if-branch.true at c.in_ok-push_downgraded.ensures) in (λ none. absurd none, λ same. served.1 same)
