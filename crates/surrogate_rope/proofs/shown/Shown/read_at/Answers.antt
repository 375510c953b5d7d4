use Rattle.std.proofs.Common.{ap, ◌∙◌, sym, min, length, ◌-◌}
use Rattle.surrogate_rope.proofs.RopeSizes.{shown_size}
use Rattle.surrogate_rope.proofs.shown.Shown.read_at.Goals as goal

pub returns-in-Rope-clause-count : goal.returns-in-Rope-clause-count
returns-in-Rope-clause-count c = c.read_at.ensures.count ∙ ap (λ size. min (length c.args.into.now) (size - c.args.offset)) (sym (shown_size c.args.msg.now c.args.self.now c.in-Rope.rope c.requires c.in-Rope.is))
