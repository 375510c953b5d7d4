use Rattle.encoded_words.proofs.Chunks.{AreWordsOf-once}
use Rattle.encoded_words.proofs.laws.words_are_one.Goals as goal

pub returns : goal.returns
returns c = AreWordsOf-once
