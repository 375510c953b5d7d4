use Rattle.std.proofs.Common.{◌≡◌, ◌*◌, ◌<◌, length, arith}
use Rattle.block_pool.specs.Pool.{needed_blocks}
use Rattle.block_pool.proofs.FillLemmas.{filling_goes_on, filling_ends, piece_cut}
use Rattle.block_pool.proofs.Sizes.{needed_blocks-begins}
use Rattle.block_pool.proofs.chains.fill.Goals as goal

pub overflow_mul-place : goal.overflow_mul-place
overflow_mul-place c =
    let below : c.loop-place.place < needed_blocks (length c.args.octets.now) = rw (← c.needed-place-end.ensures) c.loop-place-test.true in
    omega (arith, needed_blocks-begins (length c.args.octets.now) c.loop-place.place below)

pub split_at-requires : goal.split_at-requires
split_at-requires c =
    let below : c.loop-place.place < needed_blocks (length c.args.octets.now) = rw (← c.needed-place-end.ensures) c.loop-place-test.true in
    omega (arith, needed_blocks-begins (length c.args.octets.now) c.loop-place.place below)

pub loop-place-preserved : goal.loop-place-preserved
loop-place-preserved c =
    let below : c.loop-place.place < needed_blocks (length c.args.octets.now) = rw (← c.needed-place-end.ensures) c.loop-place-test.true in
    let at : c.loop-place.place * 4096 ≡ 4096 * c.loop-place.place = omega arith in
    filling_goes_on _ _ _ _ _ _ _ _ _ c.loop-place.invariant below c.write.ensures
    (piece_cut _ _ _ _ _ _ c.split_at.ensures.back c.min.ensures c.split_at-in-loop-place.ensures.front at)

pub returns : goal.returns
returns c =
    let both = filling_ends _ _ _ _ _ _ _ c.loop-place.invariant (rw (← c.needed-place-end.ensures) c.loop-place-test.false) in
    record { filled = both.0; following = both.1 }
