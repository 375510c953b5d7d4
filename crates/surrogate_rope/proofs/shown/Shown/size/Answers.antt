use Rattle.std.proofs.Common.{◌∙◌, sym}
use Rattle.surrogate_rope.proofs.RopeSizes.{shown_size}
use Rattle.surrogate_rope.proofs.shown.Shown.size.Goals as goal

pub returns-in-Rope : goal.returns-in-Rope
returns-in-Rope c = c.size.ensures ∙ sym (shown_size c.args.msg.now c.args.self.now c.in-Rope.rope c.requires c.in-Rope.is)
