use Rattle.std.proofs.Common.{◌<◌, subst}
use Rattle.surrogate_rope.proofs.RopeSizes.{shown_size}
use Rattle.surrogate_rope.proofs.shown.Shown.run_at.Goals as goal

pub returns-in-Rope-clause-some : goal.returns-in-Rope-clause-some
returns-in-Rope-clause-some c inside = c.run_at.ensures.some (subst (λ size. c.args.offset < size) (shown_size c.args.msg.now c.args.self.now c.in-Rope.rope c.requires c.in-Rope.is) inside)
