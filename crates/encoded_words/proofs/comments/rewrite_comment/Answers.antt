use Rattle.std.proofs.Common.{◌≡◌, ◌<◌, ◌∙◌, length, map, sym, ap, arith}
use Rattle.std.proofs.lemmas.Bool.Decides.{nat_tests}
use Rattle.std.proofs.lemmas.Result.{on_ok_weaker}
use Rattle.encoded_words.specs.private.Values.{value_of}
use Rattle.encoded_words.proofs.CommentsWritten.{WritesSoFar-start, WritesSoFar-step, WritesSoFar-end, step_writable, last_writable}
use Rattle.encoded_words.proofs.comments.rewrite_comment.Goals as goal

pub loop-rest-init : goal.loop-rest-init
loop-rest-init c = WritesSoFar-start c.args.text.now _ _ _ _ c.split_white.ensures c.new-units.ensures

pub write_units-requires : goal.write_units-requires
write_units-requires c =
    let some : 0 < length c.loop-rest.rest.now = grind (arith, nat_tests) in
    step_writable c.args.text.now _ c.loop-rest.rest.now _ _ c.loop-rest.units _ c.loop-rest.after_encoded _ _ _ c.requires c.loop-rest.invariant some c.in_ok-next_run.ensures _
    (ap (map value_of) c.deref.ensures.value ∙ c.take_done.ensures.units)

pub loop-rest-preserved : goal.loop-rest-preserved
loop-rest-preserved c =
    let some : 0 < length c.loop-rest.rest.now = grind (arith, nat_tests) in
    WritesSoFar-step c.args.text.now _ c.loop-rest.rest.now _ _ c.loop-rest.units _ _ c.loop-rest.after_encoded _ _ _ _ c.loop-rest.invariant some c.in_ok-next_run.ensures _
    (ap (map value_of) c.deref.ensures.value ∙ c.take_done.ensures.units) c.take_done.ensures.left c.in_ok-write_units.ensures

pub write_units-requires-2 : goal.write_units-requires-2
write_units-requires-2 c =
    let end : length c.loop-rest.rest.now ≡ 0 = grind (arith, nat_tests) in
    rw (c.deref-2.ensures.value, c.into_done.ensures) (last_writable c.args.text.now _ c.loop-rest.rest.now c.loop-rest.units _ c.loop-rest.after_encoded _ _ c.requires c.loop-rest.invariant end c.in_ok-end_text.ensures)

pub returns : goal.returns
returns c =
    let end : length c.loop-rest.rest.now ≡ 0 = grind (arith, nat_tests) in
    on_ok_weaker c.write_units-2.result (WritesSoFar-end c.args.text.now _ c.loop-rest.rest.now c.loop-rest.units _ c.loop-rest.after_encoded _ _ _ c.loop-rest.invariant end c.in_ok-end_text.ensures)
    (rw (c.deref-2.ensures.value, c.into_done.ensures) at c.write_units-2.ensures)
