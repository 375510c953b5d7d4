use Rattle.std.proofs.Common.{arith}
use Rattle.std.proofs.lemmas.Bool.{iff_false}
use Rattle.param_2231.proofs.PartLemmas.{boundary_before, boundary_down}
use Rattle.param_2231.proofs.writing.last_boundary.Goals as goal

pub overflow_sub-end : goal.overflow_sub-end
overflow_sub-end c = boundary_before c.args.octets.now c.loop-end.end c.requires.utf8 (iff_false c.is_boundary.ensures c.loop-end-test.true)

pub loop-end-preserved : goal.loop-end-preserved
loop-end-preserved c =
    let none = iff_false c.is_boundary.ensures c.loop-end-test.true in
    let some = boundary_before c.args.octets.now c.loop-end.end c.requires.utf8 none in
    let within = c.loop-end.invariant.0 in
    (omega (arith, within), λ i l h. boundary_down c.args.octets.now c.args.at c.loop-end.end c.loop-end.invariant.1 none i (omega (arith, some, l)) h)

pub returns : goal.returns
returns c = record { bound = c.loop-end.invariant.0; boundary = c.is_boundary.ensures.0 c.loop-end-test.false; last = c.loop-end.invariant.1 }

pub loop-end-smaller : goal.loop-end-smaller
loop-end-smaller c = let some = boundary_before c.args.octets.now c.loop-end.end c.requires.utf8 (iff_false c.is_boundary.ensures c.loop-end-test.true) in omega (arith, some)
