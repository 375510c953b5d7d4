use Rattle.mail_wire.proofs.Moving.{give_gives}
use Rattle.mail_wire.proofs.traffic.give_all.Goals as goal

pub returns-in-Err-clause-gives : goal.returns-in-Err-clause-gives
returns-in-Err-clause-gives g c =
    rw c.in-Err.is at (give_gives (g.W.Wire.observed c.args.wire.now) (g.W.Wire.observed c.give.new.self) c.give.result c.args.octets.now c.give.ensures.left c.give.ensures.transcript)
