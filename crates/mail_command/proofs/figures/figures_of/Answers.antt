use Rattle.std.proofs.Common.{refl}
use Rattle.mail_command.proofs.FigureLemmas.{figures_had}
use Rattle.mail_command.proofs.figures.figures_of.Goals as goal

pub returns : goal.returns
returns c =
    figures_had c.args.msg.now c.args.rope.now c.args.tree.now.entities _ c.requires.tree c.requires.rope refl c.size.ensures c.len.ensures c.rewritten.ensures c.has_high_block.ensures
