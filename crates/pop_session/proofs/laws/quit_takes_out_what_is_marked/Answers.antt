use Rattle.pop_session.proofs.ModeLemmas.{others_quiet, stream_keeps}
use Rattle.pop_session.proofs.MarkLemmas.{step_login, commands_marked, dele_answered, quit_is}
use Rattle.pop_session.proofs.laws.quit_takes_out_what_is_marked.Goals as goal

pub returns-clause-login : goal.returns-clause-login
returns-clause-login c = step_login

pub returns-clause-marked : goal.returns-clause-marked
returns-clause-marked c = commands_marked

pub returns-clause-answered : goal.returns-clause-answered
returns-clause-answered c = dele_answered

pub returns-clause-quit : goal.returns-clause-quit
returns-clause-quit c = quit_is

pub returns-clause-others : goal.returns-clause-others
returns-clause-others c = others_quiet

pub returns-clause-stream : goal.returns-clause-stream
returns-clause-stream c = stream_keeps
