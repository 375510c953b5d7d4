use Rattle.std.proofs.Common.{◌≡◌, length, arith}
use Rattle.std.proofs.lemmas.Bool.Decides.{nat_tests}
use Rattle.encoded_words.proofs.Chunks.{AddsWords-turn, chunk_shortens}
use Rattle.encoded_words.proofs.WrittenUnits.{ReadBack-added}
use Rattle.encoded_words.proofs.written_words.write_words.Goals as goal

pub loop-rest-smaller : goal.loop-rest-smaller
loop-rest-smaller c = chunk_shortens _ _ _ c.split_chunk.ensures.whole c.split_chunk.ensures.chunk

pub loop-rest-preserved : goal.loop-rest-preserved
loop-rest-preserved c = (
  c.split_chunk.ensures.utf8,
  AddsWords-turn c.args.text.now _ c.split_chunk.result.0.now _ _ _ _ _ c.split_chunk.ensures.whole c.split_chunk.ensures.chunk
      (rw (c.from_vec-word.ensures, c.in_ok-with_capacity.ensures.items) at c.in_ok-push_word.ensures)
      c.in_ok-push.ensures.items c.loop-rest.invariant.1,
)

pub returns-clause-read_back : goal.returns-clause-read_back
returns-clause-read_back c words =
    let end : length c.loop-rest.rest.now ≡ 0 = grind (arith, nat_tests) in
    ReadBack-added c.args.text.now c.loop-rest.rest.now _ _ words c.requires c.loop-rest.invariant.1 end
