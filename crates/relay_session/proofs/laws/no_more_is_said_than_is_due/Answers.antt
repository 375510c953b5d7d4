use Rattle.relay_session.proofs.SaidFronts.{says_front}
use Rattle.relay_session.proofs.laws.no_more_is_said_than_is_due.Goals as goal

pub returns : goal.returns
returns c = says_front
