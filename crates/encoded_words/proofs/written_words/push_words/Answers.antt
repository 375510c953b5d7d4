use Rattle.std.proofs.Common.{◌≡◌, ◌∷◌, ◌++◌, [], length, ap, ◌∙◌, arith}
use Rattle.encoded_words.specs.WrittenWords.{written_word}
use Rattle.std.proofs.lemmas.Bool.Decides.{nat_tests}
use Rattle.encoded_words.proofs.Chunks.{AddsFirstLines-none, AddsFirstLines-turn, AddsFirstLines-end, chunk_shortens}
use Rattle.encoded_words.proofs.written_words.push_words.Goals as goal

pub loop-rest-init : goal.loop-rest-init
loop-rest-init c = let same = c.in-Ok.ensures.cases.0 in (rw same c.requires, rw same (AddsFirstLines-none c.args.text.now c.args.white c.args.made.now))

pub loop-rest-smaller : goal.loop-rest-smaller
loop-rest-smaller c = chunk_shortens _ _ _ c.split_chunk.ensures.whole c.split_chunk.ensures.chunk

pub loop-rest-preserved : goal.loop-rest-preserved
loop-rest-preserved c = (
  c.split_chunk.ensures.utf8,
  AddsFirstLines-turn c.args.text.now c.args.white c.args.made.now c.loop-rest.made _ c.loop-rest.before c.loop-rest.rest.now _ _ c.split_chunk.ensures.whole c.split_chunk.ensures.chunk
      (c.in_ok-push_word.ensures ∙ ap (λ t. t ++ written_word c.split_chunk.result.0.now) (c.in_ok-push.ensures.ok ∙ ap (λ t. t ++ c.loop-rest.before ∷ []) c.in_ok-push_slice.ensures.ok))
      c.loop-rest.invariant.1,
)

pub returns : goal.returns
returns c =
    let end : length c.loop-rest.rest.now ≡ 0 = grind (arith, nat_tests) in
    AddsFirstLines-end c.args.text.now c.args.white c.args.made.now _ _ c.loop-rest.rest.now end c.loop-rest.invariant.1
