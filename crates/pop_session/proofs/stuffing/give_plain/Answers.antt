use Rattle.mail_wire.proofs.Moving.{give_gives}
use Rattle.pop_session.proofs.stuffing.give_plain.Goals as goal

pub returns-clause-gives : goal.returns-clause-gives
returns-clause-gives g c =
    give_gives (g.W.Wire.observed c.args.wire.now) (g.W.Wire.observed c.give.new.self) c.give.result c.args.octets.now c.give.ensures.left c.give.ensures.transcript
