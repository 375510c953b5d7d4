use Rattle.block_pool.proofs.PoolLemmas.{give_keeps}
use Rattle.base_tests.proofs.test_block_pool.give_back.Goals as goal

pub returns : goal.returns
returns c = λ other differ live. (live.0, give_keeps _ _ _ c.give_back.ensures other differ live.0 live.1)
