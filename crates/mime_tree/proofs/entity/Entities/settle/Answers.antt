use Rattle.std.proofs.Common.{◌∙◌}
use Rattle.mime_tree.proofs.Settled.{settled}
use Rattle.mime_tree.proofs.entity.Entities.settle.Goals as goal

pub returns : goal.returns
returns c before rest entity is len =
    settled c.self.inside.entities.items before rest c.args.number c.args.end c.args.shape c.index_mut-entity.result.now entity c.index_mut-entity.ensures.value (c.self.view_is ∙ is) len
