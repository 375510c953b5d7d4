use Rattle.block_pool.proofs.PoolLemmas.{put_holds, put_keeps}
use Rattle.base_tests.proofs.test_block_pool.put.Goals as goal

pub returns-in-Some-clause-held : goal.returns-in-Some-clause-held
returns-in-Some-clause-held c = (c.args.octets.now, put_holds _ _ _ _ c.in-Some.ensures.puts)

pub returns-in-Some-clause-kept : goal.returns-in-Some-clause-kept
returns-in-Some-clause-kept c = λ other live. (live.0, put_keeps _ _ _ _ c.in-Some.ensures.puts other live.0 live.1)
