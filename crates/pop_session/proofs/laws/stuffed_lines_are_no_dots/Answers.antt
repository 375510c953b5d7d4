use Rattle.pop_session.proofs.StuffedLines.{no_dots, line_after, lines_back}
use Rattle.pop_session.proofs.laws.stuffed_lines_are_no_dots.Goals as goal

pub returns-clause-none : goal.returns-clause-none
returns-clause-none c = no_dots

pub returns-clause-end : goal.returns-clause-end
returns-clause-end c = line_after

pub returns-clause-back : goal.returns-clause-back
returns-clause-back c = lines_back
