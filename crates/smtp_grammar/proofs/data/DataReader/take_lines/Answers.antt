use Rattle.std.proofs.Common.{length, arith}
use Rattle.std.proofs.lemmas.Slice.{between_to_end}
use Rattle.smtp_grammar.proofs.ReadingLemmas.{taken_all, taken_end, taken_front, taken_line}
use Rattle.smtp_grammar.proofs.data.DataReader.take_lines.Goals as goal

pub returns-in_default-clause-takes : goal.returns-in_default-clause-takes
returns-in_default-clause-takes c =
    let line = c.in_default.ensures.line in
    taken_front c.args.self.now c.loop-used.self _ c.args.piece.now _ c.loop-used.used (between_to_end c.args.piece.now c.loop-used.used (length c.args.piece.now) (omega arith))
    c.loop-used.invariant (rw c.as_slice.ensures at line) c.in_ok-take_front.ensures.takes

pub returns-clause-takes : goal.returns-clause-takes
returns-clause-takes c = taken_all c.args.self.now c.loop-used.self c.args.piece.now c.loop-used.used (omega arith) c.loop-used.invariant

pub loop-used-preserved : goal.loop-used-preserved
loop-used-preserved c =
    let line = c.in-Some.ensures.line in
    let takes = c.in_ok-take_line.ensures.takes in
    taken_line c.args.self.now c.loop-used.self _ c.args.piece.now _ c.loop-used.used c.in-Some.end
    (between_to_end c.args.piece.now c.loop-used.used (length c.args.piece.now) (omega arith))
    c.loop-used.invariant (rw c.as_slice.ensures at line) c.in-Some.ensures.bound.1 (rw c.if-branch.false at takes) c.take_line.ensures.limit c.in_ok-take_line.ensures.bounded

pub returns-then-branch-clause-takes : goal.returns-then-branch-clause-takes
returns-then-branch-clause-takes c =
    let line = c.in-Some.ensures.line in
    let takes = c.in_ok-take_line.ensures.takes in
    taken_end c.args.self.now c.loop-used.self _ c.args.piece.now _ c.loop-used.used c.in-Some.end
    (between_to_end c.args.piece.now c.loop-used.used (length c.args.piece.now) (omega arith))
    c.loop-used.invariant (rw c.as_slice.ensures at line) c.in-Some.ensures.bound.0 c.in-Some.ensures.bound.1 (rw c.if-branch.true at takes)
