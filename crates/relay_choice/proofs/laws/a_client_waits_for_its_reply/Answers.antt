use Rattle.relay_choice.proofs.LeavingLemmas.{client_waits}
use Rattle.relay_choice.proofs.laws.a_client_waits_for_its_reply.Goals as goal

pub returns : goal.returns
returns c = client_waits
