use Rattle.relay_session.proofs.LeftCauses.{somebody_left}
use Rattle.relay_session.proofs.laws.somebody_is_left_for_a_cause.Goals as goal

pub returns : goal.returns
returns c = somebody_left
