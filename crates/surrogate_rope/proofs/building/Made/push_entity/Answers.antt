use Rattle.std.proofs.Common.{rules}
use Rattle.surrogate_rope.proofs.KeptPlaces.{place_fits}
use Rattle.surrogate_rope.proofs.building.Made.push_entity.Goals as goal

pub place-made-requires-clause-fits : goal.place-made-requires-clause-fits
place-made-requires-clause-fits c = place_fits c.args.msg.now c.args.entity.now.block.end c.push_block.new.self c.in_ok-push_block.ensures.stands (search rules)
