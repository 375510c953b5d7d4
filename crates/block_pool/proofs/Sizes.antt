-- How many blocks so many octets take.
use Rattle.std.proofs.Common.{◌≡◌, ℕ, ◌+◌, ◌*◌, ◌/◌, ◌%◌, ◌<◌, ◌≤◌, min, max, arith}
use Rattle.block_pool.specs.Pool.{needed_blocks}

pub needed_blocks-is : (len : ℕ) → max (len / 4096 + min 1 (len % 4096)) 1 ≡ needed_blocks len
unfolding needed_blocks
needed_blocks-is len = omega arith

pub needed_blocks-some : (len : ℕ) → 1 ≤ needed_blocks len
unfolding needed_blocks
needed_blocks-some len = omega arith

pub needed_blocks-room : (len : ℕ) → len ≤ 4096 * needed_blocks len
unfolding needed_blocks
needed_blocks-room len = omega arith

-- each of the blocks begins within the octets, or at their end
pub needed_blocks-begins : (len place : ℕ) → place < needed_blocks len → 4096 * place ≤ len
unfolding needed_blocks
needed_blocks-begins len place below = omega arith
