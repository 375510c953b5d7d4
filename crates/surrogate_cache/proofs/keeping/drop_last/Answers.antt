use Rattle.std.proofs.Common.{ℕ, ap, sym}
use Rattle.lru.specs.LruCache.{LruCache}
use Rattle.surrogate_cache.specs.private.Kept.{octets_at}
use Rattle.surrogate_cache.proofs.KeptEntries.{last_first, kept_dropped}
use Rattle.surrogate_cache.proofs.keeping.drop_last.Goals as goal

pub give_back-requires : goal.give_back-requires
give_back-requires c = (
  octets_at c.args.pool.now.held c.in-Some.last,
  (last_first c.args.pool.now c.args.order.now.entries (c.in-Some.field-0-0, c.in-Some.last) (sym c.in-Some.ensures.value) c.requires.kept).each.0.live,
)

pub returns-clause-kept : goal.returns-clause-kept
returns-clause-kept c =
    (kept_dropped c.args.pool.now c.give_back.new.self c.args.order.now.entries c.pop_lru.new.self.entries (c.in-Some.field-0-0, c.in-Some.last) c.requires.kept c.requires.whole
    (sym c.in-Some.ensures.value) (ap (λ (order : LruCache ℕ ℕ). order.entries) c.pop_lru.ensures.entries) c.give_back.ensures).kept

pub returns-clause-entries : goal.returns-clause-entries
returns-clause-entries c =
    (kept_dropped c.args.pool.now c.give_back.new.self c.args.order.now.entries c.pop_lru.new.self.entries (c.in-Some.field-0-0, c.in-Some.last) c.requires.kept c.requires.whole
    (sym c.in-Some.ensures.value) (ap (λ (order : LruCache ℕ ℕ). order.entries) c.pop_lru.ensures.entries) c.give_back.ensures).entries
