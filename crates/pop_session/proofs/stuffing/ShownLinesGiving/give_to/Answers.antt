use Rattle.std.proofs.Common.{take}
use Rattle.surrogate_rope.specs.Served.{shown_octets}
use Rattle.pop_session.proofs.StuffedPieces.{end_given}
use Rattle.pop_session.proofs.stuffing.ShownLinesGiving.give_to.Goals as goal

pub returns-clause-gives : goal.returns-clause-gives
returns-clause-gives g c =
    end_given (g.W.Wire.observed c.args.wire.now) (g.W.Wire.observed c.give_dotted.new.wire) (g.W.Wire.observed c.give_plain.new.wire) c.give_plain.result
    (take c.args.self.now.len (shown_octets c.args.msg.now c.args.self.now.shown.now)) c.end_of.result.now c.place_at.result c.in_ok-give_dotted.ensures.gives c.place_at.ensures c.end_of.ensures
    c.give_plain.ensures.gives
