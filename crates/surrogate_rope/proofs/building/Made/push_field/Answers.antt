use Rattle.std.proofs.Common.{◌+◌, ◌++◌, ◌∷◌, [], ap, ◌∙◌, arith, rules}
use Rattle.surrogate_rope.specs.Ropes.{New}
use Rattle.surrogate_rope.proofs.KeptPlaces.{kept_room, kept_where, field_stays, field_is_new}
use Rattle.surrogate_rope.proofs.building.Made.push_field.Goals as goal

pub push_served-requires-clause-kept : goal.push_served-requires-clause-kept
push_served-requires-clause-kept c = kept_room c.args.msg.now c.args.field.at c.args.self.now c.requires.stands (search rules)

pub returns-then-branch-clause-stands : goal.returns-then-branch-clause-stands
returns-then-branch-clause-stands c =
    let puts = rw c.if-branch.true at c.in_ok-push_served.ensures.pieces in
    let next = field_is_new c.args.msg.now c.args.open_global c.args.field.at (c.args.field.at + c.args.field.len) puts.0 c.push_served.new.self c.count_one-self.result c.args.self.now c.requires.stands (omega arith)
    c.requires.fits c.in_ok-push_served.ensures.few puts.1 puts.2 (puts.3 ∙ ap (λ pieces. pieces ++ New puts.0 ∷ []) (kept_where c.args.self.now c.args.field.at)) (omega (arith, c.count_one-self.ensures)) in
    next.stands

pub returns-then-branch-clause-adds : goal.returns-then-branch-clause-adds
returns-then-branch-clause-adds c =
    let puts = rw c.if-branch.true at c.in_ok-push_served.ensures.pieces in
    let next = field_is_new c.args.msg.now c.args.open_global c.args.field.at (c.args.field.at + c.args.field.len) puts.0 c.push_served.new.self c.count_one-self.result c.args.self.now c.requires.stands (omega arith)
    c.requires.fits c.in_ok-push_served.ensures.few puts.1 puts.2 (puts.3 ∙ ap (λ pieces. pieces ++ New puts.0 ∷ []) (kept_where c.args.self.now c.args.field.at)) (omega (arith, c.count_one-self.ensures)) in
    next.adds

pub returns-else-branch-clause-adds : goal.returns-else-branch-clause-adds
returns-else-branch-clause-adds c =
    let puts = rw c.if-branch.false at c.in_ok-push_served.ensures.pieces in
    rw puts.1 (field_stays c.args.msg.now c.args.open_global c.args.field.at (c.args.field.at + c.args.field.len) c.args.self.now c.requires.stands (omega arith) puts.0)
