use Rattle.encoded_words.proofs.WrittenWords.{b_shorter}
use Rattle.encoded_words.proofs.written_words.is_b_shorter.Goals as goal

pub returns : goal.returns
returns c = b_shorter c.args.chunk.now _ _ c.div_ceil.ensures c.count_escaped.ensures
