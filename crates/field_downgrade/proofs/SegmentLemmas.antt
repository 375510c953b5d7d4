-- Words that are no encoded words, and those that end high.
use Rattle.std.proofs.Common.{◌≡◌, true, not, List, [], ◌∷◌, ◌++◌, refl, ◌∙◌}
use Rattle.std.specs.List.{list_all}
use Rattle.field_downgrade.specs.Words.{Word, is_high_word}
use Rattle.field_downgrade.specs.Layout.{ends_high}

abbrev pub NotEncoded : List Word → Type 0
NotEncoded ws = list_all (λ (w : Word). not w.is_encoded) ws ≡ true

abbrev pub EndsHigh : List Word → Type 0
EndsHigh [] = Unit {0}
EndsHigh (w ∷ ws) = ends_high (w ∷ ws) ≡ true

ends_high-push : (ws : List Word) (w : Word) → ends_high (ws ++ w ∷ []) ≡ is_high_word w
ends_high-push [] w = refl
ends_high-push (v ∷ []) w = refl
ends_high-push (v ∷ u ∷ ws) w = ends_high-push (u ∷ ws) w

pub EndsHigh-push : (ws : List Word) (w : Word) → is_high_word w ≡ true → EndsHigh (ws ++ w ∷ [])
EndsHigh-push [] w h = h
EndsHigh-push (v ∷ ws) w h = ends_high-push (v ∷ ws) w ∙ h
