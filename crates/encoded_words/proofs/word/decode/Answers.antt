use Rattle.encoded_words.proofs.QText.{none_of_q}
use Rattle.encoded_words.proofs.word.decode.Goals as goal

pub returns-in-81-clause-none : goal.returns-in-81-clause-none
returns-in-81-clause-none c = none_of_q c.args.letter c.args.text.now c.decode_q.result c.in-81.is c.decode_q.ensures.none
