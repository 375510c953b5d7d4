use Rattle.address_lists.proofs.PhraseListTexts.{decide_phrases, PhrasesPieces-some, PhrasesPieces-says}
use Rattle.address_lists.proofs.laws.phrases_are_there.Goals as goal

pub returns-clause-decided : goal.returns-clause-decided
returns-clause-decided c = decide_phrases

pub returns-clause-pieces : goal.returns-clause-pieces
returns-clause-pieces c = PhrasesPieces-some

pub returns-clause-phrases : goal.returns-clause-phrases
returns-clause-phrases c = PhrasesPieces-says
