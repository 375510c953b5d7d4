use Rattle.relay_choice.proofs.ReplyReads.{read_once}
use Rattle.relay_choice.proofs.laws.octets_are_read_once.Goals as goal

pub returns : goal.returns
returns c = read_once
