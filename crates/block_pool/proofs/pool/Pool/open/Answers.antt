use Rattle.std.proofs.Common.{◌≡◌, ◌*◌, length, replicate, None, arith, rules}
use Rattle.block_pool.proofs.OpenLemmas.{opened, held_none}
use Rattle.block_pool.proofs.pool.Pool.open.Goals as goal

pub invariant_of-result : goal.invariant_of-result
invariant_of-result c =
    let region : length c.in_ok-region.region.items ≡ 4096 * c.args.blocks = omega (arith, c.in_ok-region.ensures.len, c.in_ok-region.region.ok) in
    let lens : c.in_ok-lens.lens.items ≡ replicate c.args.blocks None = c.in_ok-lens.ensures.items_if_clones_equal (λ y is. search rules) in
    opened _ _ _ _ c.requires.some c.requires.most region c.in_ok-next.ensures.len c.in_ok-next.ensures.inside c.in_ok-next.ensures.order lens

pub returns-clause-held : goal.returns-clause-held
returns-clause-held c = held_none _ _ c.args.blocks (c.in_ok-lens.ensures.items_if_clones_equal (λ y is. search rules))
