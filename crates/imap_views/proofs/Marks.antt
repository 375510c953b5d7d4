-- Where a text is divided by a mark.
use Rattle.std.proofs.Common.{◌≡◌, ℕ, ◌==◌, true, not, List, [], ◌∷◌, ◌++◌, refl, ap, ◌∙◌}
use Rattle.std.proofs.lemmas.Bool.{and_parts, not-true, cond-true, cond-false, eq-eqb}
use Rattle.encoded_words.specs.private.Parts.{lacks}
use Rattle.imap_views.specs.Strings.{before_mark, after_mark}

pub before_found : (mark : ℕ) (front rest : List ℕ) → lacks mark front ≡ true → before_mark mark (front ++ mark ∷ rest) ≡ front
unfolding before_mark
before_found mark [] rest h = cond-true _ _ _ (eq-eqb mark mark refl)
before_found mark (x ∷ front) rest h =
    let parts = and_parts (not (x == mark)) (lacks mark front) h in
    cond-false _ _ _ (not-true (x == mark) parts.0) ∙ ap (λ r. x ∷ r) (before_found mark front rest parts.1)

pub after_found : (mark : ℕ) (front rest : List ℕ) → lacks mark front ≡ true → after_mark mark (front ++ mark ∷ rest) ≡ rest
unfolding after_mark
after_found mark [] rest h = cond-true _ _ _ (eq-eqb mark mark refl)
after_found mark (x ∷ front) rest h =
    let parts = and_parts (not (x == mark)) (lacks mark front) h in
    cond-false _ _ _ (not-true (x == mark) parts.0) ∙ after_found mark front rest parts.1

pub before_missing : (mark : ℕ) (octets : List ℕ) → lacks mark octets ≡ true → before_mark mark octets ≡ octets
unfolding before_mark
before_missing mark [] h = refl
before_missing mark (x ∷ octets) h =
    let parts = and_parts (not (x == mark)) (lacks mark octets) h in
    cond-false _ _ _ (not-true (x == mark) parts.0) ∙ ap (λ r. x ∷ r) (before_missing mark octets parts.1)

pub after_missing : (mark : ℕ) (octets : List ℕ) → lacks mark octets ≡ true → after_mark mark octets ≡ []
unfolding after_mark
after_missing mark [] h = refl
after_missing mark (x ∷ octets) h =
    let parts = and_parts (not (x == mark)) (lacks mark octets) h in
    cond-false _ _ _ (not-true (x == mark) parts.0) ∙ after_missing mark octets parts.1
