use Rattle.std.proofs.Common.{rules}
use Rattle.journal_records.proofs.MarkLemmas.{other_mark}
use Rattle.journal_records.proofs.stored.StoredOctets.read.Goals as goal

pub returns-then-mark-own-clause-none : goal.returns-then-mark-own-clause-none
returns-then-mark-own-clause-none c =
    other_mark c.args.octets c.as_slice.result.now c.args.mark c.in_ok-own.field-0 c.in-Some-mark.mark c.in-Some.own (search rules) c.in-Some-mark.is c.in-Some.is c.in_ok-own.ensures.mark
    c.if-mark-own.true
