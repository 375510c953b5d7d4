-- Texts with spaces between them.
use Rattle.std.proofs.Common.{◌≡◌, ℕ, List, [], ◌∷◌, ◌++◌, refl, sym, ap, ◌∙◌, append_assoc}
use Rattle.std.proofs.lemmas.List.{append-nil}
use Rattle.imap_views.specs.Strings.{spaced}
use Rattle.imap_views.specs.Structures.{after_spaces}

-- each text but the first one stands after a space
pub spaced_after : (text : List ℕ) (texts : List (List ℕ)) → spaced (text ∷ texts) ≡ text ++ after_spaces texts
unfolding spaced
spaced_after text [] = sym (append-nil text)
spaced_after text (next ∷ texts) = ap (λ r. text ++ 32 ∷ r) (spaced_after next texts)

-- ---- texts that are put last

after_append : (texts more : List (List ℕ)) → after_spaces texts ++ after_spaces more ≡ after_spaces (texts ++ more)
after_append [] more = refl
after_append (text ∷ texts) more = ap (λ r. 32 ∷ r) (append_assoc text (after_spaces texts) (after_spaces more) ∙ ap (λ r. text ++ r) (after_append texts more))

one_after : (made next : List ℕ) → made ++ 32 ∷ next ≡ made ++ after_spaces (next ∷ [])
one_after made next = ap (λ r. made ++ 32 ∷ r) (sym (append-nil next))

pub after_put : (old : List ℕ) (texts : List (List ℕ)) (next made new : List ℕ) → made ≡ old ++ after_spaces texts → new ≡ made ++ 32 ∷ next → new ≡ old ++ after_spaces (texts ++ next ∷ [])
after_put old texts next made new e put =
    put ∙ one_after made next ∙ ap (λ m. m ++ after_spaces (next ∷ [])) e ∙ append_assoc old (after_spaces texts) (after_spaces (next ∷ [])) ∙ ap (λ r. old ++ r) (after_append texts (next ∷ []))

-- the same, where the space was put before it
pub after_put-apart : (old : List ℕ) (texts : List (List ℕ)) (next made between new : List ℕ) → made ≡ old ++ after_spaces texts → between ≡ made ++ 32 ∷ [] → new ≡ between ++ next → new ≡ old ++ after_spaces (texts ++ next ∷ [])
after_put-apart old texts next made between new e apart put = after_put old texts next made new e (put ∙ ap (λ m. m ++ next) apart ∙ append_assoc made (32 ∷ []) next)

pub spaced_one : (old text made : List ℕ) → made ≡ old ++ text → made ≡ old ++ spaced (text ∷ [])
unfolding spaced
spaced_one old text made e = e

-- more texts, each after a space
pub spaced_more : (old text : List ℕ) (texts more : List (List ℕ)) (made new : List ℕ) → made ≡ old ++ spaced (text ∷ texts) → new ≡ made ++ after_spaces more → new ≡ old ++ spaced (text ∷ (texts ++ more))
spaced_more old text texts more made new e put =
    put ∙ ap (λ m. m ++ after_spaces more) (e ∙ ap (λ r. old ++ r) (spaced_after text texts)) ∙ append_assoc old (text ++ after_spaces texts) (after_spaces more)
    ∙ ap (λ r. old ++ r) (append_assoc text (after_spaces texts) (after_spaces more) ∙ ap (λ r. text ++ r) (after_append texts more) ∙ sym (spaced_after text (texts ++ more)))

pub spaced_put : (old text : List ℕ) (texts : List (List ℕ)) (next made new : List ℕ) → made ≡ old ++ spaced (text ∷ texts) → new ≡ made ++ 32 ∷ next → new ≡ old ++ spaced (text ∷ (texts ++ next ∷ []))
spaced_put old text texts next made new e put = spaced_more old text texts (next ∷ []) made new e (put ∙ one_after made next)

-- the same, where the space was put before it
pub spaced_put-apart : (old text : List ℕ) (texts : List (List ℕ)) (next made between new : List ℕ) → made ≡ old ++ spaced (text ∷ texts) → between ≡ made ++ 32 ∷ [] → new ≡ between ++ next
    → new ≡ old ++ spaced (text ∷ (texts ++ next ∷ []))
spaced_put-apart old text texts next made between new e apart put = spaced_put old text texts next made new e (put ∙ ap (λ m. m ++ next) apart ∙ append_assoc made (32 ∷ []) next)
