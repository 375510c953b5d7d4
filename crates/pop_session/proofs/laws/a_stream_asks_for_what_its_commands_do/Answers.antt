use Rattle.pop_session.proofs.AskedLemmas.{stream_asked}
use Rattle.pop_session.proofs.laws.a_stream_asks_for_what_its_commands_do.Goals as goal

pub returns : goal.returns
returns c = stream_asked
