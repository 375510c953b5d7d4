use Rattle.std.proofs.Common.{sym}
use Rattle.param_grammar.proofs.ReadLemmas.{not-SaysOctets-more}
use Rattle.param_grammar.proofs.contents.read_octets.Goals as goal

pub returns-then-is_first-clause-none : goal.returns-then-is_first-clause-none
returns-then-is_first-clause-none c = rw (c.if-not-is_extended.false, c.if-is_first.true, sym c.as_slice.ensures) c.read_first.ensures.none

pub returns-in_default-clause-none : goal.returns-in_default-clause-none
returns-in_default-clause-none c =
    not-SaysOctets-more c.args.is_extended c.args.is_first c.args.content c.if-not-is_extended.false c.if-is_first.false (rw (c.in_default.is, c.as_slice-2.ensures) at c.in_ok-octets.ensures.none)
