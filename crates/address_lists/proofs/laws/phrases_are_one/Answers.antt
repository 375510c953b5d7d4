use Rattle.address_lists.proofs.PhraseListLemmas.{SaysPhrases-once, PhrasesPieces-once}
use Rattle.address_lists.proofs.laws.phrases_are_one.Goals as goal

pub returns-clause-phrases : goal.returns-clause-phrases
returns-clause-phrases c = λ text us vs cs ds p q. (SaysPhrases-once text us vs cs ds p q).phrases

pub returns-clause-comments : goal.returns-clause-comments
returns-clause-comments c = λ text us vs cs ds p q. (SaysPhrases-once text us vs cs ds p q).comments

pub returns-clause-pieces : goal.returns-clause-pieces
returns-clause-pieces c = PhrasesPieces-once
