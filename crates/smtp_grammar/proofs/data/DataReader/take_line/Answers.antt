use Rattle.smtp_grammar.proofs.ReadingLemmas.{part_last}
use Rattle.smtp_grammar.proofs.data.DataReader.take_line.Goals as goal

pub returns-then-is_last-clause-takes : goal.returns-then-is_last-clause-takes
returns-then-is_last-clause-takes c octets read ends =
    let last = c.is_last.ensures.0 c.if-is_last.true in
    part_last c.args.self.now octets c.args.part.now (rw c.as_slice.ensures at last) read ends
