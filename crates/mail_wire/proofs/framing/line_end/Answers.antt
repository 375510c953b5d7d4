use Rattle.mail_wire.proofs.LineEnd.{line_across, line_found, line_none, line_short, some_first}
use Rattle.mail_wire.proofs.framing.line_end.Goals as goal

pub returns-then-joins-clause-bound : goal.returns-then-joins-clause-bound
returns-then-joins-clause-bound c = some_first c.args.kept.now c.args.piece.now (c.joins.ensures.0 c.if-joins.true)

pub returns-then-joins-clause-line : goal.returns-then-joins-clause-line
returns-then-joins-clause-line c = λ none. line_across c.args.kept.now c.args.piece.now none (c.joins.ensures.0 c.if-joins.true)

pub returns-in-Some-clause-line : goal.returns-in-Some-clause-line
returns-in-Some-clause-line c = λ none. line_found c.args.kept.now c.args.piece.now c.in-Some.at _ none c.joins.ensures c.if-joins.false c.in-Some.ensures

pub returns-in-None-clause-line : goal.returns-in-None-clause-line
returns-in-None-clause-line c = λ none. line_none c.args.kept.now c.args.piece.now _ none c.joins.ensures c.if-joins.false c.in-None.ensures

pub returns-then-piece-lt2-clause-line : goal.returns-then-piece-lt2-clause-line
returns-then-piece-lt2-clause-line c = λ none. line_short c.args.kept.now c.args.piece.now _ none c.joins.ensures c.if-joins.false c.if-piece-lt2.true
