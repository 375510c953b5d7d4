use Rattle.kept_mail.proofs.Places.{set-change_at}
use Rattle.pop_session.specs.Machine.{marked}
use Rattle.pop_session.proofs.states.Pop+Transaction+V.dele.Goals as goal
use Rattle.std.proofs.Common.{true}

pub returns : goal.returns
returns g c = set-change_at (marked true) c.args.self.state.maildrop.items c.args.place c.index_mut.result.now c.requires c.index_mut.ensures.value
