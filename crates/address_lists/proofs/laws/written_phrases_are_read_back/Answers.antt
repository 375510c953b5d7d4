use Rattle.address_lists.proofs.PhraseListsAgain.{PhrasesPieces-read}
use Rattle.address_lists.proofs.laws.written_phrases_are_read_back.Goals as goal

pub returns : goal.returns
returns c = PhrasesPieces-read
