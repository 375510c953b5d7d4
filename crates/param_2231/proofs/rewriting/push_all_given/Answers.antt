use Rattle.std.proofs.Common.{arith}
use Rattle.std.specs.Prelude.{codes}
use Rattle.param_2231.proofs.GivenLemmas.{PiecesLeft-all, PiecesLeft-next, PiecesLeft-end}
use Rattle.param_2231.proofs.rewriting.push_all_given.Goals as goal

pub loop-number-init : goal.loop-number-init
loop-number-init c = PiecesLeft-all (codes ";") c.args.text.now c.args.placed.now c.args.made.now

pub loop-number-preserved : goal.loop-number-preserved
loop-number-preserved c =
    PiecesLeft-next (codes ";") c.args.text.now c.args.placed.now c.loop-number.number _ _ _ (omega arith) c.loop-number.invariant c.in_ok-push_given.ensures

pub returns : goal.returns
returns c = PiecesLeft-end (codes ";") c.args.text.now c.args.placed.now c.loop-number.number _ _ (omega arith) c.loop-number.invariant
