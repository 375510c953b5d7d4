-- Text that touches text.
use Rattle.std.proofs.Common.{◌≡◌, List, ℕ, [], ◌∷◌, ◌++◌, refl, sym, ap, ◌∙◌}
use Rattle.std.proofs.lemmas.List.{append_assoc, append-nil}
use Rattle.encoded_words.specs.Words.{UnitValue, Text, Opaque}
use Rattle.encoded_words.specs.Units.{with_text, merged}
use Rattle.encoded_words.specs.Written.{AreUnits}

pub with_text-append : (a b : List ℕ) (us : List UnitValue) → with_text a (with_text b us) ≡ with_text (a ++ b) us
with_text-append [] b us = refl
with_text-append (x ∷ a) [] us = ap (λ t. with_text t us) (sym (append-nil (x ∷ a)))
with_text-append (x ∷ a) (y ∷ b) [] = refl
with_text-append (x ∷ a) (y ∷ b) (Text more ∷ us) = ap (λ t. Text t ∷ us) (sym (append_assoc (x ∷ a) (y ∷ b) more))
with_text-append (x ∷ a) (y ∷ b) (Opaque charset octets source ∷ us) = refl

-- a text before units that are put together is put together with them
merged-with_text : (bs : List ℕ) (us : List UnitValue) → merged (with_text bs us) ≡ with_text bs (merged us)
merged-with_text [] us = refl
merged-with_text (b ∷ bs) [] = refl
merged-with_text (b ∷ bs) (Text more ∷ us) = sym (with_text-append (b ∷ bs) more (merged us))
merged-with_text (b ∷ bs) (Opaque charset octets source ∷ us) = refl

merged-merged : (us : List UnitValue) → merged (merged us) ≡ merged us
merged-merged [] = refl
merged-merged (Text bs ∷ us) = merged-with_text bs (merged us) ∙ ap (with_text bs) (merged-merged us)
merged-merged (Opaque charset octets source ∷ us) = ap (λ vs. Opaque charset octets source ∷ vs) (merged-merged us)

-- units that were put together stay as they are
pub AreUnits-merged : (raw units : List UnitValue) → units ≡ merged raw → AreUnits units
AreUnits-merged raw units is = ap merged is ∙ merged-merged raw ∙ sym is
