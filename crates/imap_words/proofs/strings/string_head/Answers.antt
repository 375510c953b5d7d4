use Rattle.imap_words.specs.Strings.{IsQuoted, IsHeader}
use Rattle.imap_words.proofs.Going.{passes_on}
use Rattle.imap_words.proofs.HeaderSteps.{header_viable}
use Rattle.imap_words.proofs.StringHeads.{quoted_never, header_never, head_more, literal_stops, literal_reads, quoted_stops, quoted_reads, plain_stops, plain_reads}
use Rattle.imap_words.proofs.strings.string_head.Goals as goal

pub returns-in_default-clause-reads : goal.returns-in_default-clause-reads
returns-in_default-clause-reads c = head_more (IsQuoted c.args.utf8) IsHeader c.args.kind header_viable c.args.text.now c.in_default.ensures.cases

pub returns-in_err-size-clause-reads : goal.returns-in_err-size-clause-reads
returns-in_err-size-clause-reads c = passes_on _ _ c.from_residual.result _ c.from_residual.ensures.1 (literal_stops (IsQuoted c.args.utf8) IsHeader c.args.kind (quoted_never c.args.utf8) header_never c.requires c.args.text.now _ _ c.in-Some.ensures.cases.0 _ c.if-first-eq123.true c.in_err-size.ensures.reads)

pub returns-then-first-eq123-clause-reads : goal.returns-then-first-eq123-clause-reads
returns-then-first-eq123-clause-reads c = literal_reads (IsQuoted c.args.utf8) IsHeader c.args.kind (quoted_never c.args.utf8) header_never c.requires c.args.text.now _ _ c.in-Some.ensures.cases.0 _ _ c.if-first-eq123.true c.in_ok-size.ensures.reads

pub returns-in_err-octets-clause-reads : goal.returns-in_err-octets-clause-reads
returns-in_err-octets-clause-reads c = passes_on _ _ c.from_residual-in_err-octets.result _ c.from_residual-in_err-octets.ensures.1 (quoted_stops (IsQuoted c.args.utf8) IsHeader c.args.kind (quoted_never c.args.utf8) header_never c.requires c.args.text.now _ _ c.in-Some.ensures.cases.0 _ c.if-first-eq34.true c.in_err-octets.ensures)

pub returns-then-first-eq34-clause-reads : goal.returns-then-first-eq34-clause-reads
returns-then-first-eq34-clause-reads c = quoted_reads (IsQuoted c.args.utf8) IsHeader c.args.kind (quoted_never c.args.utf8) header_never c.requires c.args.text.now _ _ c.in-Some.ensures.cases.0 _ _ c.if-first-eq34.true c.in_ok-octets.ensures

pub returns-in_err-octets-2-clause-reads : goal.returns-in_err-octets-2-clause-reads
returns-in_err-octets-2-clause-reads c =
    passes_on _ _ c.from_residual-in_err-octets-2.result _ c.from_residual-in_err-octets-2.ensures.1
    (plain_stops (IsQuoted c.args.utf8) IsHeader c.args.kind (quoted_never c.args.utf8) header_never c.requires c.args.text.now _ _ c.in-Some.ensures.cases.0 _ c.if-first-eq123.false c.if-first-eq34.false c.in_err-octets-2.ensures)

pub returns-clause-reads : goal.returns-clause-reads
returns-clause-reads c = plain_reads (IsQuoted c.args.utf8) IsHeader c.args.kind (quoted_never c.args.utf8) header_never c.requires c.args.text.now _ _ c.in-Some.ensures.cases.0 _ _ _ c.if-first-eq123.false c.if-first-eq34.false c.in_ok-octets-2.ensures c.in-Ok.ensures
