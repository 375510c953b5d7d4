use Rattle.imap_grammar.proofs.FindLaws.{end_found_at, end_there}
use Rattle.imap_grammar.proofs.reader.Reader.line_len.Goals as goal

pub returns-clause-line : goal.returns-clause-line
returns-clause-line c = end_found_at c.args.self.now c.args.piece.now _ _ c.wanted-wanted.result c.in_ok-end.end c.as_slice.ensures c.wanted-wanted.ensures c.split_at.ensures.back c.in_ok-end.ensures.line

pub returns-clause-ends : goal.returns-clause-ends
returns-clause-ends c = end_there c.args.self.now c.args.piece.now _ _ c.wanted-wanted.result c.in_ok-end.end c.as_slice.ensures c.wanted-wanted.ensures c.split_at.ensures.back c.in_ok-end.ensures.line
