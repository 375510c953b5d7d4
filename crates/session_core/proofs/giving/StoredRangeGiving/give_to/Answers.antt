use Rattle.mail_wire.proofs.Moving.{give_gives}
use Rattle.session_core.proofs.giving.StoredRangeGiving.give_to.Goals as goal

pub returns-clause-gives : goal.returns-clause-gives
returns-clause-gives g c =
    rw (c.split_at-2.ensures.front, c.split_at.ensures.back) at
    (give_gives (g.W.Wire.observed c.args.wire.now) (g.W.Wire.observed c.give.new.self) c.give.result c.split_at-2.result.0.now c.give.ensures.left c.give.ensures.transcript)
