use Rattle.block_pool.proofs.ReadLemmas.{accounted}
use Rattle.block_pool.proofs.pool.Pool.free.Goals as goal

pub returns-clause-whole : goal.returns-clause-whole
returns-clause-whole c = accounted _ _ _ _ _ c.self.invariant _ c.self.view_is
