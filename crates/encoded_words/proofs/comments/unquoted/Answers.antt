use Rattle.encoded_words.proofs.CommentReading.{ReadsItems-step, ReadsItems-end}
use Rattle.encoded_words.proofs.comments.unquoted.Goals as goal

pub loop-octet-preserved : goal.loop-octet-preserved
loop-octet-preserved c = ReadsItems-step c.args.word.now _ c.loop-octet.rest.now _ _ _ c.loop-octet.invariant c.in-Some.ensures.found c.in_ok-push.ensures.items

pub returns : goal.returns
returns c = ReadsItems-end c.args.word.now _ c.loop-octet.rest.now c.loop-octet.invariant c.in_default.ensures.none
