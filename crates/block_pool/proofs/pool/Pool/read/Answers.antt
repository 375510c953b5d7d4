use Rattle.std.proofs.Common.{◌≡◌, ◌++◌, ◌-◌, ◌<◌, List, ℕ, length, take, drop, min, ap, arith, length-take}
use Rattle.block_pool.proofs.ReadLemmas.{kept_live, read_done}
use Rattle.block_pool.proofs.pool.Pool.read.Goals as goal

pub following-first-requires : goal.following-first-requires
following-first-requires c = rw c.deref.ensures.value (kept_live _ _ _ _ _ c.self.invariant _ c.self.view_is _ c.requires).inside

pub returns-clause-octets : goal.returns-clause-octets
returns-clause-octets c = λ octets holds.
    let len : c.len-len.result ≡ length octets = c.len-len.ensures octets holds in
    let before : c.args.at < length octets = omega arith in
    let count : c.min-count.result ≡ min (length c.args.into.now) (length octets - c.args.at) = omega arith in
    let part : length (take c.min-count.result c.args.into.now) ≡ c.min-count.result = omega (arith, length-take c.min-count.result c.args.into.now) in
    ap (λ (zs : List ℕ). zs ++ drop c.min-count.result c.args.into.now) (
    read_done _ _ _ _ _ c.self.invariant _ c.self.view_is _ octets holds c.args.at _ c.min-count.result before count _ _ part
    (rw (c.following-first.ensures.value, c.deref.ensures.value, c.deref-2.ensures.value, c.deref-3.ensures.value) at c.copy_out.ensures)
    )
