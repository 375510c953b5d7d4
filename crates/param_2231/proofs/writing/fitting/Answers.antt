use Rattle.std.proofs.Common.{arith}
use Rattle.param_2231.proofs.PartLemmas.{IsFitting-full}
use Rattle.param_2231.proofs.writing.fitting.Goals as goal

pub overflow_add-more : goal.overflow_add-more
overflow_add-more c = let small = c.loop-octet.invariant.1.fits in omega (arith, c.escaped_len.ensures.few, small)

pub returns-then-more-gt-MOST : goal.returns-then-more-gt-MOST
returns-then-more-gt-MOST c =
    rw (c.loop-octet.invariant.0)
    (IsFitting-full c.args.octets.now c.loop-octet.octet-index c.loop-octet.spelled c.escaped_len.result c.loop-octet.invariant.1 c.loop-octet-test.true c.escaped_len.ensures.spelled (omega arith))
