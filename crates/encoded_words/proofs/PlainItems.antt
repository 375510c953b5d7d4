-- Octets that stand by themselves in a comment's text.
use Rattle.std.proofs.Common.{◌≡◌, ◌==◌, ℕ, true, false, not, List, [], ◌∷◌, ◌++◌, map, refl, sym, ap, ◌∙◌, arith}
use Rattle.std.proofs.lemmas.Bool.{and_parts, and_from, eq-eqb, not-true, true≢false}
use Rattle.std.proofs.lemmas.Bool.Decides.{nat_tests}
use Rattle.std.specs.List.{list_all, list_any, flat_map}
use Rattle.mail_wire.specs.Octets.{is_white}
use Rattle.encoded_words.specs.CommentUnits.{TextItem, Plain, AreTextItems, item_spelling, item_octet, has_backslash, is_white_item}
use Rattle.encoded_words.specs.Written.{has_no_backslash}

pub plain_octets : (xs : List ℕ) → map item_octet (map Plain xs) ≡ xs
plain_octets [] = refl
plain_octets (x ∷ xs) = ap (λ ys. x ∷ ys) (plain_octets xs)

pub plain_spelling : (xs : List ℕ) → flat_map item_spelling (map Plain xs) ≡ xs
plain_spelling [] = refl
plain_spelling (x ∷ xs) = ap (λ ys. x ∷ ys) (plain_spelling xs)

pub plain_no_backslash : (xs : List ℕ) → has_no_backslash xs ≡ true → list_any has_backslash (map Plain xs) ≡ false
plain_no_backslash [] h = refl
plain_no_backslash (x ∷ xs) h =
    let parts = and_parts (not (x == 92)) (has_no_backslash xs) h in rw (not-true (x == 92) parts.0) (plain_no_backslash xs parts.1)

pub no_backslash_parts : (xs ys : List ℕ) → has_no_backslash (xs ++ ys) ≡ true → (has_no_backslash xs ≡ true) × (has_no_backslash ys ≡ true)
no_backslash_parts [] ys h = (refl, h)
no_backslash_parts (x ∷ xs) ys h =
    let parts = and_parts (not (x == 92)) (has_no_backslash (xs ++ ys)) h in
    let more = no_backslash_parts xs ys parts.1 in
    (and_from (not (x == 92)) (has_no_backslash xs) parts.0 more.0, more.1)

pub plain_before : (xs : List ℕ) (items : List TextItem) → has_no_backslash xs ≡ true → AreTextItems items → AreTextItems (map Plain xs ++ items)
plain_before [] items h are = are
plain_before (x ∷ xs) items h are =
    let parts = and_parts (not (x == 92)) (has_no_backslash xs) h in
    ((λ e. absurd (true≢false (sym (eq-eqb x 92 e) ∙ not-true (x == 92) parts.0))), plain_before xs items parts.1 are)

pub plain_items : (xs : List ℕ) → has_no_backslash xs ≡ true → AreTextItems (map Plain xs)
plain_items [] h = tt
plain_items (x ∷ xs) h =
    let parts = and_parts (not (x == 92)) (has_no_backslash xs) h in
    ((λ e. absurd (true≢false (sym (eq-eqb x 92 e) ∙ not-true (x == 92) parts.0))), plain_items xs parts.1)

pub plain_white : (xs : List ℕ) → list_all is_white xs ≡ true → list_all is_white_item (map Plain xs) ≡ true
plain_white [] h = refl
plain_white (x ∷ xs) h =
    let parts = and_parts (is_white x) (list_all is_white xs) h in and_from (is_white x) (list_all is_white_item (map Plain xs)) parts.0 (plain_white xs parts.1)

white_no_backslash_one : (x : ℕ) → is_white x ≡ true → not (x == 92) ≡ true
white_no_backslash_one x h = grind (arith, nat_tests)

pub white_no_backslash : (xs : List ℕ) → list_all is_white xs ≡ true → has_no_backslash xs ≡ true
white_no_backslash [] h = refl
white_no_backslash (x ∷ xs) h =
    let parts = and_parts (is_white x) (list_all is_white xs) h in and_from (not (x == 92)) (has_no_backslash xs) (white_no_backslash_one x parts.0) (white_no_backslash xs parts.1)
