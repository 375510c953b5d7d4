use Rattle.pop_session.proofs.AskedLemmas.{others_asked, refused_asked, enabled_asked}
use Rattle.pop_session.proofs.laws.nothing_else_is_asked_for.Goals as goal

pub returns-clause-others : goal.returns-clause-others
returns-clause-others c = others_asked

pub returns-clause-refused : goal.returns-clause-refused
returns-clause-refused c = refused_asked

pub returns-clause-enabled : goal.returns-clause-enabled
returns-clause-enabled c = enabled_asked
