use Rattle.imap_grammar.proofs.FindSteps.{line_at, open_at, long_line_at, long_open_at}
use Rattle.imap_grammar.proofs.reader.Reader.find.Goals as goal

pub returns-then-end-free-clause-finds : goal.returns-then-end-free-clause-finds
returns-then-end-free-clause-finds c = λ utf8 seen s.
    long_line_at utf8 c.args.self.now seen c.args.piece.now s c.saturating_sub-room.result c.saturating_sub-room.ensures c.free-free.result c.in-Some.end c.free-free.ensures c.in-Some.ensures.bound.1 (c.in-Some.ensures.line s.no_line).0 c.if-end-free.true

pub returns-then-piece-free-clause-finds : goal.returns-then-piece-free-clause-finds
returns-then-piece-free-clause-finds c = λ utf8 seen s.
    long_open_at utf8 c.args.self.now seen c.args.piece.now s c.saturating_sub-room.result c.saturating_sub-room.ensures c.free-free-in-None.result c.free-free-in-None.ensures (c.in-None.ensures.line s.no_line) c.if-piece-free.true

pub returns-else-end-free-clause-finds : goal.returns-else-end-free-clause-finds
returns-else-end-free-clause-finds c = λ utf8 seen s.
    line_at utf8 c.args.self.now seen c.args.piece.now s c.saturating_sub-room.result c.saturating_sub-room.ensures c.free-free.result c.in-Some.end c.free-free.ensures c.in-Some.ensures.bound.0 c.in-Some.ensures.bound.1 (c.in-Some.ensures.line s.no_line).0 (c.in-Some.ensures.line s.no_line).1
    c.if-end-free.false

pub returns-else-piece-free-clause-finds : goal.returns-else-piece-free-clause-finds
returns-else-piece-free-clause-finds c = λ utf8 seen s.
    open_at utf8 c.args.self.now seen c.args.piece.now s c.saturating_sub-room.result c.saturating_sub-room.ensures c.free-free-in-None.result c.free-free-in-None.ensures (c.in-None.ensures.line s.no_line) c.if-piece-free.false
