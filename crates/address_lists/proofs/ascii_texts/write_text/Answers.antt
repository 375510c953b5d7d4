use Rattle.std.proofs.lemmas.Result.{on_ok_weaker}
use Rattle.encoded_words.proofs.LineLemmas.{adds_as}
use Rattle.address_lists.proofs.ascii_texts.write_text.Goals as goal

pub returns : goal.returns
returns c = on_ok_weaker c.push_joined.result (λ a. adds_as (λ ps e. (_, c.inner_text.ensures, e)) a) c.push_joined.ensures
