use Rattle.std.proofs.Common.{sym}
use Rattle.smtp_grammar.specs.Commands.{path_after}
use Rattle.smtp_session.proofs.RowLemmas.{alone-blank, alone-more}
use Rattle.smtp_session.proofs.rows.lone_path.Goals as goal

pub returns-then-is_white_text : goal.returns-then-is_white_text
returns-then-is_white_text c =
    alone-blank (path_after c.args.word.now c.args.argument.now) (record { path = c.in_ok-given.given.path.now; rest = c.in_ok-given.given.rest.now })
    c.in_ok-given.ensures (sym c.if-is_white_text.ensures)

pub returns-else-is_white_text : goal.returns-else-is_white_text
returns-else-is_white_text c =
    alone-more (path_after c.args.word.now c.args.argument.now) (record { path = c.in_ok-given.given.path.now; rest = c.in_ok-given.given.rest.now })
    c.in_ok-given.ensures (sym c.if-is_white_text.ensures)
