use Rattle.std.proofs.Common.{◌-◌, ◌∙◌, ap, sym, length, min}
use Rattle.surrogate_rope.specs.Ropes.{joined_pieces}
use Rattle.surrogate_rope.proofs.PieceLemmas.{joined_length, reading_on}
use Rattle.surrogate_rope.proofs.pieces.Pieces.read_at.Goals as goal

pub loop-count-preserved : goal.loop-count-preserved
loop-count-preserved c =
    reading_on (joined_pieces c.args.msg.now c.args.self.now) c.args.offset c.loop-count.count c.min-most.result c.copy_from-count.result c.run_at-run.result.now c.args.into.now c.loop-count.into c.copy_from-count.new.into
    (c.min-most.ensures ∙ ap (λ n. min (length c.args.into.now) (n - c.args.offset)) (c.size-2.ensures ∙ sym (joined_length c.args.msg.now c.args.self.now c.requires)))
    c.loop-count.invariant c.loop-count-test.true c.run_at-run.ensures.run c.copy_from-count.ensures.count c.copy_from-count.ensures.octets
