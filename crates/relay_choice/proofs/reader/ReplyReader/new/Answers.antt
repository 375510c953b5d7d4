use Rattle.relay_choice.proofs.ReplyReads.{nothing_begun}
use Rattle.relay_choice.proofs.reader.ReplyReader.new.Goals as goal

pub returns-clause-begun : goal.returns-clause-begun
returns-clause-begun c = rw c.new.ensures nothing_begun
