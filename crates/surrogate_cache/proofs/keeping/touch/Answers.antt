use Rattle.std.proofs.Common.{◌≡◌, None, nat_eq, rules, sym, ap}
use Rattle.std.specs.Map.{lookup}
use Rattle.lru.specs.LruCache.{lru_cache}
use Rattle.surrogate_cache.proofs.OrderLemmas.{promoted-missed}
use Rattle.surrogate_cache.proofs.keeping.touch.Goals as goal

pub returns-in_default-clause-order : goal.returns-in_default-clause-order
returns-in_default-clause-order c =
    let missed : lookup (nat_eq c.args.id) c.args.order.now.entries ≡ None = search rules in
    ap (λ es. lru_cache es c.args.order.now.cap) (sym (promoted-missed c.args.order.now.entries c.args.id missed))
