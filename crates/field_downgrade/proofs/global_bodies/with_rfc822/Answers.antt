use Rattle.field_downgrade.proofs.GlobalBodiesPlaces.{counted, pushed_changes}
use Rattle.field_downgrade.proofs.global_bodies.with_rfc822.Goals as goal

pub split_at-requires-2 : goal.split_at-requires-2
split_at-requires-2 c =
    let counts = counted c.args.body.now c.split_lead.result.0.now c.split_lead.result.1.now c.requires.names.0 c.args.at c.place_following.result c.requires.folded c.requires.names.1 c.requires.names.2
    c.split_lead.ensures c.place_following.ensures.place in
    rw (c.split_at.ensures.back) counts.room

pub returns : goal.returns
returns c =
    let counts = counted c.args.body.now c.split_lead.result.0.now c.split_lead.result.1.now c.requires.names.0 c.args.at c.place_following.result c.requires.folded c.requires.names.1 c.requires.names.2
    c.split_lead.ensures c.place_following.ensures.place in
    pushed_changes c.args.body.now c.split_lead.result.0.now c.split_lead.result.1.now c.split_at.result.0.now c.split_at.result.1.now c.split_at-2.result.1.now _ _ _ _ c.place_following.result counts
    c.split_at.ensures.front c.split_at.ensures.back c.split_at-2.ensures.back c.in_ok-made.ensures c.in_ok-push_slice.ensures.ok c.in_ok-push_slice-2.ensures.ok c.in_ok-push_slice-3.ensures.ok
