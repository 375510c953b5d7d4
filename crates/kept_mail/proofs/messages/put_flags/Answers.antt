use Rattle.kept_mail.specs.Kept.{with_flags}
use Rattle.kept_mail.proofs.Places.{set-change_at}
use Rattle.kept_mail.proofs.messages.put_flags.Goals as goal

pub returns : goal.returns
returns c = set-change_at (with_flags c.args.flags) c.args.messages.now.items c.args.at c.index_mut-message.result.now c.requires c.index_mut-message.ensures.value
