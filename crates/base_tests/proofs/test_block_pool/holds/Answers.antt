use Rattle.std.proofs.Common.{arith, length-take}
use Rattle.base_tests.proofs.test_block_pool.holds.Goals as goal

pub slice_bounds-into-end : goal.slice_bounds-into-end
slice_bounds-into-end c = omega (arith, c.read-count.ensures.count c.requires.0 c.requires.1)

pub slice_bounds-eq-end : goal.slice_bounds-eq-end
slice_bounds-eq-end c = omega (arith, c.read-count.ensures.count c.requires.0 c.requires.1, length-take c.read-count.result c.read-count.new.into)
