use Rattle.smtp_grammar.proofs.ReadingLemmas.{four_joined}
use Rattle.smtp_grammar.proofs.data.tail_of.Goals as goal

pub returns : goal.returns
returns c =
    let joined = rw (c.in_ok-tail.ensures, c.last_four.ensures, c.last_four-2.ensures) at c.in_ok-push_slice.ensures.ok in
    let whole = rw (c.last_four-3.ensures, c.as_slice.ensures, joined, four_joined c.args.line.now c.args.more.now) at c.from_slice-2.ensures in
    whole
