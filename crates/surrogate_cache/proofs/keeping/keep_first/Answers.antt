use Rattle.std.proofs.Common.{◌-◌, arith}
use Rattle.std.proofs.lemmas.Result.{on_ok_weaker, on_err_weaker}
use Rattle.surrogate_cache.specs.private.Kept.{entries_at}
use Rattle.surrogate_cache.proofs.RoomLemmas.{entries_within-missed, built_large, kept_built, left_beside}
use Rattle.surrogate_cache.proofs.keeping.keep_first.Goals as goal

pub returns-then-blocks-most-clause-ok : goal.returns-then-blocks-most-clause-ok
returns-then-blocks-most-clause-ok c =
    built_large c.args.most c.args.order.now.cap c.needed-blocks.result (entries_at c.args.pool.now.held c.args.order.now.entries) c.args.id c.args.stored.now c.needed-blocks.ensures (omega arith)

pub put_first-requires-clause-missed : goal.put_first-requires-clause-missed
put_first-requires-clause-missed c =
    rw c.make_room.ensures.entries
    (entries_within-missed (entries_at c.args.pool.now.held c.args.order.now.entries) (c.args.pool.now.blocks - c.needed-blocks.result) (c.args.order.now.cap - 1) c.args.id c.requires.missed)

pub returns-clause-ok : goal.returns-clause-ok
returns-clause-ok c =
    on_ok_weaker c.put_first.result
    (kept_built c.args.pool.now.blocks c.args.most c.args.order.now.cap c.needed-blocks.result (entries_at c.args.pool.now.held c.args.order.now.entries)
    (entries_at c.make_room.new.pool.held c.make_room.new.order.entries) (entries_at c.put_first.new.pool.held c.put_first.new.order.entries) c.args.id c.args.stored.now c.requires.most
    c.needed-blocks.ensures (omega arith) c.make_room.ensures.entries)
    c.put_first.ensures.ok

pub returns-clause-err : goal.returns-clause-err
returns-clause-err c =
    on_err_weaker c.put_first.result
    (left_beside c.args.pool.now.blocks c.args.most c.args.order.now.cap c.needed-blocks.result (entries_at c.args.pool.now.held c.args.order.now.entries)
    (entries_at c.make_room.new.pool.held c.make_room.new.order.entries) (entries_at c.put_first.new.pool.held c.put_first.new.order.entries) c.args.stored.now c.requires.most
    c.needed-blocks.ensures c.make_room.ensures.entries)
    c.put_first.ensures.err
