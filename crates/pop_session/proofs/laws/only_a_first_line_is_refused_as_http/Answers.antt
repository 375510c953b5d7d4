use Rattle.pop_session.proofs.FirstLines.{first_refused, first_as_others, later_unknown}
use Rattle.pop_session.proofs.laws.only_a_first_line_is_refused_as_http.Goals as goal

pub returns-clause-first : goal.returns-clause-first
returns-clause-first c = first_refused

pub returns-clause-others : goal.returns-clause-others
returns-clause-others c = first_as_others

pub returns-clause-later : goal.returns-clause-later
returns-clause-later c = later_unknown
