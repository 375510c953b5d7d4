use Rattle.std.proofs.Common.{◌≡◌, ◌+◌, ◌-◌, ◌*◌, arith, refl}
use Rattle.block_pool.proofs.Copies.{copying_begins, copying_goes_on, copying_ends}
use Rattle.block_pool.proofs.chains.copy_out.Goals as goal

pub loop-done-init : goal.loop-done-init
loop-done-init c = copying_begins _ _ _ _ _ _ c.requires.inside c.requires.starts refl

pub loop-done-preserved : goal.loop-done-preserved
loop-done-preserved c =
    let n = c.min-count.result in
    let from = c.loop-done.block * 4096 + c.loop-done.start in
    let a : c.loop-done.done + n - c.loop-done.done ≡ n = omega arith in
    let b : from + n - from ≡ n = omega arith in
    rw a (
    copying_goes_on _ _ _ _ _ _ _ _ n _ _ c.requires.region c.loop-done.invariant (omega arith) (omega arith)
    (rw b at c.copy_from_slice.ensures.after)
    )

pub returns : goal.returns
returns c = copying_ends _ _ _ _ _ _ _ _ _ c.loop-done.invariant (omega arith)
