use Rattle.std.proofs.Common.{ℕ, ap, sym, subst, ◌∙◌}
use Rattle.lru.specs.LruCache.{LruCache}
use Rattle.surrogate_cache.specs.private.Kept.{entries_at, IsKept}
use Rattle.block_pool.proofs.PoolLemmas.{put_holds}
use Rattle.surrogate_cache.proofs.KeptEntries.{kept_first, kept_back}
use Rattle.surrogate_cache.proofs.keeping.put_first.Goals as goal

pub give_back-requires : goal.give_back-requires
give_back-requires c = (c.args.stored.now, put_holds c.args.pool.now c.put.new.self c.in-Some.place c.args.stored.now c.in-Some.ensures.puts)

pub returns-in-Ok-clause-kept : goal.returns-in-Ok-clause-kept
returns-in-Ok-clause-kept c =
    (kept_first c.args.pool.now c.put.new.self c.args.order.now c.put-2.new.self c.args.id c.in-Some.place c.args.stored.now c.requires.kept c.requires.missed c.requires.room.1 c.in-Some.ensures.fresh
    c.in-Some.ensures.puts c.requires.rope c.requires.room.0 c.in-Ok.ensures.entries).0

pub returns-in-Ok-clause-ok : goal.returns-in-Ok-clause-ok
returns-in-Ok-clause-ok c =
    (kept_first c.args.pool.now c.put.new.self c.args.order.now c.put-2.new.self c.args.id c.in-Some.place c.args.stored.now c.requires.kept c.requires.missed c.requires.room.1 c.in-Some.ensures.fresh
    c.in-Some.ensures.puts c.requires.rope c.requires.room.0 c.in-Ok.ensures.entries).1

pub returns-in-Err-clause-kept : goal.returns-in-Err-clause-kept
returns-in-Err-clause-kept c =
    subst (IsKept c.give_back.new.self) (sym (ap (λ (o : LruCache ℕ ℕ). o.entries) c.in-Err.ensures.err))
    (kept_back c.args.pool.now c.put.new.self c.give_back.new.self c.args.order.now.entries c.args.id c.in-Some.place c.args.stored.now c.requires.kept c.requires.missed c.in-Some.ensures.fresh
    c.in-Some.ensures.puts c.requires.rope c.requires.room.0 c.give_back.ensures).0

pub returns-in-Err-clause-err : goal.returns-in-Err-clause-err
returns-in-Err-clause-err c =
    ap (λ (o : LruCache ℕ ℕ). entries_at c.give_back.new.self.held o.entries) c.in-Err.ensures.err
    ∙ (kept_back c.args.pool.now c.put.new.self c.give_back.new.self c.args.order.now.entries c.args.id c.in-Some.place c.args.stored.now c.requires.kept c.requires.missed c.in-Some.ensures.fresh
    c.in-Some.ensures.puts c.requires.rope c.requires.room.0 c.give_back.ensures).1
