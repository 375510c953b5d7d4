use Rattle.kept_mail.specs.Kept.{gone}
use Rattle.kept_mail.proofs.Places.{set-change_at}
use Rattle.kept_mail.proofs.messages.take_away.Goals as goal

pub returns : goal.returns
returns c = set-change_at gone c.args.messages.now.items c.args.at c.index_mut-message.result.now c.requires c.index_mut-message.ensures.value
