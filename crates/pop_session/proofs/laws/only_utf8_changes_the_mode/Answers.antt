use Rattle.pop_session.proofs.ModeLemmas.{utf8_accepted, other_enables_not, step_mode, stream_mode}
use Rattle.pop_session.proofs.laws.only_utf8_changes_the_mode.Goals as goal

pub returns-clause-accepted : goal.returns-clause-accepted
returns-clause-accepted c = utf8_accepted

pub returns-clause-other : goal.returns-clause-other
returns-clause-other c = other_enables_not

pub returns-clause-command : goal.returns-clause-command
returns-clause-command c = step_mode

pub returns-clause-stream : goal.returns-clause-stream
returns-clause-stream c = stream_mode
