use Rattle.kept_mail.specs.Kept.{settled}
use Rattle.kept_mail.proofs.Places.{set-change_at}
use Rattle.kept_mail.proofs.kept.Recipients.settle.Goals as goal

pub returns : goal.returns
returns c = rw (← c.self.view_is) (set-change_at settled c.self.inside.recipients.items c.args.index c.index_mut-recipient.result.now (rw (← c.self.view_is) at c.requires) c.index_mut-recipient.ensures.value)
