use Rattle.relay_choice.proofs.ReplyReads.{front_read, decided_read, decided_once}
use Rattle.relay_choice.proofs.laws.pieces_are_read_as_one.Goals as goal

pub returns : goal.returns
returns c = record {
  begun = λ before piece reader by. front_read before piece reader.octets reader.place by.octets_are by.begun;
  decided = decided_read;
  ended = decided_once;
}
