use Rattle.std.proofs.Common.{ap, ◌∙◌, arith}
use Rattle.block_pool.specs.Pool.{needed_blocks}
use Rattle.block_pool.proofs.Sizes.{needed_blocks-some}
use Rattle.block_pool.proofs.ReadLemmas.{kept_live}
use Rattle.block_pool.proofs.DoneLemmas.{give_done}
use Rattle.block_pool.proofs.pool.Pool.give_back.Goals as goal

pub overflow_sub-blocks : goal.overflow_sub-blocks
overflow_sub-blocks c = omega (arith, needed_blocks-some c.len.result)

pub following-last-requires : goal.following-last-requires
following-last-requires c = rw c.deref.ensures.value (kept_live _ _ _ _ _ c.self.invariant _ c.self.view_is _ c.requires).inside

pub overflow_cast-self : goal.overflow_cast-self
overflow_cast-self c =
    let count = c.needed-blocks.ensures ∙ ap needed_blocks (c.len.ensures c.requires.0 c.requires.1) in
    let last = rw c.deref.ensures.value at c.following-last.ensures.value in
    let done = give_done _ _ _ _ _ c.self.invariant _ c.self.view_is _ c.requires.0 c.requires.1 _ count _ last in
    omega (arith, done.few)

pub overflow_add-self : goal.overflow_add-self
overflow_add-self c =
    let count = c.needed-blocks.ensures ∙ ap needed_blocks (c.len.ensures c.requires.0 c.requires.1) in
    let last = rw c.deref.ensures.value at c.following-last.ensures.value in
    let done = give_done _ _ _ _ _ c.self.invariant _ c.self.view_is _ c.requires.0 c.requires.1 _ count _ last in
    omega (arith, done.few)

pub index_mut-requires-2 : goal.index_mut-requires-2
index_mut-requires-2 c =
    let kept = kept_live _ _ _ _ _ c.self.invariant _ c.self.view_is _ c.requires in
    omega (arith, kept.within, c.self.inside.lens.ok)

pub invariant_of-self : goal.invariant_of-self
invariant_of-self c =
    let count = c.needed-blocks.ensures ∙ ap needed_blocks (c.len.ensures c.requires.0 c.requires.1) in
    let last = rw c.deref.ensures.value at c.following-last.ensures.value in
    (give_done _ _ _ _ _ c.self.invariant _ c.self.view_is _ c.requires.0 c.requires.1 _ count _ last).sound

pub returns : goal.returns
returns c =
    let count = c.needed-blocks.ensures ∙ ap needed_blocks (c.len.ensures c.requires.0 c.requires.1) in
    let last = rw c.deref.ensures.value at c.following-last.ensures.value in
    (c.requires.0, (give_done _ _ _ _ _ c.self.invariant _ c.self.view_is _ c.requires.0 c.requires.1 _ count _ last).gives)
