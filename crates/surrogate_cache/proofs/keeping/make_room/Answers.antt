use Rattle.std.proofs.Common.{◌-◌, ◌∙◌}
use Rattle.surrogate_cache.specs.private.Kept.{entries_at}
use Rattle.surrogate_cache.proofs.RoomLemmas.{IsFull, less_stays, same_stays}
use Rattle.surrogate_cache.proofs.keeping.make_room.Goals as goal

pub loop-pool-preserved : goal.loop-pool-preserved
loop-pool-preserved c =
    let full : IsFull c.loop-pool.pool c.loop-pool.order.entries c.loop-pool.order.cap c.args.blocks =
    λ room. let yes = c.has_room.ensures.room.1 room in let not = c.loop-pool-test.true in cc in
    record {
      kept = c.drop_last.ensures.kept;
      entries = less_stays c.args.pool.now c.loop-pool.pool c.args.order.now.entries c.loop-pool.order.entries c.args.order.now.cap c.loop-pool.order.cap c.args.blocks c.loop-pool.invariant.kept
          c.loop-pool.invariant.blocks_same c.loop-pool.invariant.cap_same c.requires.can c.has_room.ensures.some full c.loop-pool.invariant.entries
          (entries_at c.drop_last.new.pool.held c.drop_last.new.order.entries) c.drop_last.ensures.entries;
      blocks_same = c.drop_last.ensures.same.0 ∙ c.loop-pool.invariant.blocks_same;
      cap_same = c.drop_last.ensures.same.1 ∙ c.loop-pool.invariant.cap_same;
    }

pub returns-clause-entries : goal.returns-clause-entries
returns-clause-entries c =
    same_stays c.args.pool.now c.loop-pool.pool c.args.order.now.entries c.loop-pool.order.entries c.args.order.now.cap c.loop-pool.order.cap c.args.blocks c.loop-pool.invariant.kept
    c.loop-pool.invariant.blocks_same c.loop-pool.invariant.cap_same c.requires.can (c.has_room.ensures.room.0 (let yes = c.loop-pool-test.false in cc)) c.loop-pool.invariant.entries
