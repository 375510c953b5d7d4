use Rattle.block_pool.proofs.Sizes.{needed_blocks-is}
use Rattle.block_pool.proofs.chains.needed.Goals as goal

pub returns : goal.returns
returns c = rw (c.max.ensures, c.div_ceil.ensures) (needed_blocks-is c.args.len)
