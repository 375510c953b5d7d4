use Rattle.std.proofs.Common.{refl}
use Rattle.smtp_grammar.proofs.ReadingLemmas.{front_dropped, not_so}
use Rattle.smtp_grammar.proofs.data.DataReader.take_front.Goals as goal

pub returns-clause-takes : goal.returns-clause-takes
returns-clause-takes c octets read none =
    let lacks = not_so _ _ c.has_room.ensures c.if-has_room.false in
    front_dropped c.args.self.now _ octets c.args.more.now lacks refl c.new.ensures refl (rw c.as_slice.ensures at c.in_ok-tail.ensures) read none
