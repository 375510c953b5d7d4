use Rattle.std.proofs.Common.{◌≡◌, ◌+◌, ◌-◌, ◌*◌, length, arith}
use Rattle.block_pool.specs.private.Chains.{written}
use Rattle.block_pool.proofs.chains.write.Goals as goal

pub returns : goal.returns
unfolding written
returns c =
    let at : c.args.block * 4096 ≡ 4096 * c.args.block = omega arith in
    let size : 4096 * c.args.block + length c.args.piece.now - 4096 * c.args.block ≡ length c.args.piece.now = omega arith in
    rw (c.copy_from_slice.ensures.after, at, size)
