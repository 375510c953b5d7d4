use Rattle.std.proofs.Common.{refl, ◌∷◌, []}
use Rattle.std.proofs.lemmas.Result.{on_ok_weaker}
use Rattle.encoded_words.proofs.AddedUnits.{adds_words}
use Rattle.encoded_words.proofs.LineLemmas.{adds_these}
use Rattle.encoded_words.proofs.writing.push_unit.Goals as goal

pub returns-in-Text : goal.returns-in-Text
returns-in-Text c =
    rw (c.in-Text.is) (on_ok_weaker c.push_words.result (adds_words c.in-Text.octets _ _) (rw (c.as_slice.ensures) at c.push_words.ensures))

pub returns-in-Opaque : goal.returns-in-Opaque
returns-in-Opaque c =
    rw (c.in-Opaque.is) (on_ok_weaker c.push_line.result (λ put. adds_these (c.in-Opaque.source ∷ []) refl put) (rw (c.as_slice-in-Opaque.ensures) at c.push_line.ensures))
