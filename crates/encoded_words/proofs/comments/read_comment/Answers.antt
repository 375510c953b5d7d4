use Rattle.std.proofs.Common.{◌≡◌, ◌<◌, [], length, arith}
use Rattle.std.proofs.lemmas.Bool.Decides.{nat_tests}
use Rattle.encoded_words.proofs.CommentReading.{ReadsComment-start, ReadsComment-step, ReadsComment-end}
use Rattle.encoded_words.proofs.comments.read_comment.Goals as goal

pub loop-rest-init : goal.loop-rest-init
loop-rest-init c = ReadsComment-start c.args.text.now _ _ _ c.split_white.ensures c.new-units.ensures

pub loop-rest-preserved : goal.loop-rest-preserved
loop-rest-preserved c =
    let some : 0 < length c.loop-rest.rest.now = grind (arith, nat_tests) in
    ReadsComment-step c.args.text.now _ c.loop-rest.rest.now _ _ [] c.loop-rest.units _ c.loop-rest.after_encoded _ c.loop-rest.invariant some c.in_ok-next_run.ensures

pub returns : goal.returns
returns c =
    let end : length c.loop-rest.rest.now ≡ 0 = grind (arith, nat_tests) in
    rw c.into_done.ensures (ReadsComment-end c.args.text.now _ c.loop-rest.rest.now [] c.loop-rest.units _ c.loop-rest.after_encoded c.loop-rest.invariant end c.in_ok-end_text.ensures)
