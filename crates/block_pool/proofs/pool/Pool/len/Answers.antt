use Rattle.std.proofs.Common.{◌≡◌, arith, sym, ◌∙◌, Some}
use Rattle.block_pool.proofs.ReadLemmas.{kept_under, kept_live, read_len}
use Rattle.block_pool.proofs.pool.Pool.len.Goals as goal

pub index-requires : goal.index-requires
index-requires c =
    let kept = kept_live _ _ _ _ _ c.self.invariant _ c.self.view_is _ c.requires in
    omega (arith, kept.within, c.self.inside.lens.ok)

pub unreachable-requires : goal.unreachable-requires
unreachable-requires c =
    let kept = kept_live _ _ _ _ _ c.self.invariant _ c.self.view_is _ c.requires in
    let none = read_len c.self.inside.lens.items c.args.id c.index.result.now _ kept.within c.index.ensures c.in-None.is in
    let some = kept.len_is in
    cc (none, some)

pub returns : goal.returns
returns c = λ octets holds.
    let kept = kept_under _ _ _ _ _ c.self.invariant _ c.self.view_is _ octets holds in
    let read = read_len c.self.inside.lens.items c.args.id c.index.result.now (Some c.in-Some.len) kept.within c.index.ensures c.in-Some.is in
    let same : c.in-Some.len ≡ kept.len = cc (read, kept.len_is) in
    same ∙ sym kept.size_is
