use Rattle.std.proofs.Common.{refl, ap, length, arith}
use Rattle.smtp_grammar.proofs.ReadingLemmas.{part_dropped, part_kept, part_too_long}
use Rattle.smtp_grammar.proofs.data.DataReader.take_part.Goals as goal

pub returns-then-self-clause-takes : goal.returns-then-self-clause-takes
returns-then-self-clause-takes c octets read ends differs =
    part_dropped c.args.self.now _ octets c.args.part.now (record { limit = refl; line = c.clear.ensures }) c.if-self.true c.if-self.true refl read ends differs

pub returns-then-len-self-clause-takes : goal.returns-then-len-self-clause-takes
returns-then-len-self-clause-takes c octets read ends differs =
    let made = ap length (rw c.as_slice.ensures at c.in_ok-put_line.ensures) in
    part_too_long c.args.self.now _ octets c.args.part.now (record { limit = refl; line = c.new.ensures }) c.if-self.false refl c.new-then-len-self.ensures (omega (arith, made)) read ends differs

pub returns-else-len-self-clause-takes : goal.returns-else-len-self-clause-takes
returns-else-len-self-clause-takes c octets read ends differs =
    let made = rw c.as_slice.ensures at c.in_ok-put_line.ensures in
    part_kept c.args.self.now _ octets c.args.part.now (record { limit = refl; line = c.new.ensures }) c.if-self.false c.if-self.false made (omega arith) read ends differs
