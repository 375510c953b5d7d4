use Rattle.encoded_words.proofs.CommentReading.{ReadsNonwhite-step}
use Rattle.encoded_words.proofs.comments.split_word.Goals as goal

pub loop-after-preserved : goal.loop-after-preserved
loop-after-preserved c = ReadsNonwhite-step c.args.octets.now c.loop-after.rest.now _ c.loop-after.invariant c.in-Some.ensures.found
