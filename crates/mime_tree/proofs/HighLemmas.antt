-- Lemmas on header blocks with octets above 127.
use Rattle.std.proofs.Common.{◌≡◌, ℕ, ◌+◌, ◌<◌, ◌≤◌, List, [], ◌∷◌, Bool, true, false, ◌||◌, not, length, map, take, get_or, refl, sym, ap, ◌∙◌}
use Rattle.std.specs.List.{list_all, list_any}
use Rattle.std.proofs.lemmas.List.{take_all}
use Rattle.std.proofs.lemmas.List.Folds.{list_any_at, list_any_more}
use Rattle.mail_wire.specs.Octets.{is_ascii, is_high}
use Rattle.utf8_fields.specs.Block.{raw_of}
use Rattle.utf8_fields.specs.declared.block.Field.{Field}

abbrev pub no_field : Field
no_field = record { name = record { at = 0; len = 0 }; raw = record { at = 0; len = 0 } }

-- one more element that doesn't pass, as at a step of a loop
pub none_more : {X : Type 0} (test : X → Bool) (xs : List X) (i : ℕ) (d : X) → i < length xs → list_any test (take i xs) ≡ false → test (get_or xs i d) ≡ false
    → list_any test (take (i + 1) xs) ≡ false
none_more test xs i d inside none fails = list_any_more test xs i d inside ∙ rw (none, fails) refl

-- none of all the elements
pub none_of : {X : Type 0} (test : X → Bool) (xs : List X) (i : ℕ) → length xs ≤ i → list_any test (take i xs) ≡ false → list_any test xs ≡ false
none_of test xs i past none = sym (ap (list_any test) (take_all i xs past)) ∙ none

any_map : {X Y : Type 0} (test : Y → Bool) (made : X → Y) (xs : List X) → list_any test (map made xs) ≡ list_any (λ x. test (made x)) xs
any_map test made [] = refl
any_map test made (x ∷ xs) = ap (λ b. test (made x) || b) (any_map test made xs)

-- a field of a block with an octet above 127
pub high_at : (msg : List ℕ) (items fields : List Field) (i : ℕ) (d : Field) → items ≡ fields → i < length items → list_all is_ascii (raw_of msg (get_or items i d)) ≡ false
    → true ≡ list_any is_high (map (raw_of msg) fields)
high_at msg items fields i d same inside high =
    sym (ap (λ all. list_any is_high (map (raw_of msg) all)) (sym same) ∙ any_map is_high (raw_of msg) items ∙ list_any_at (λ field. is_high (raw_of msg field)) items i d inside (ap not high))

-- no such field
pub none_high : (msg : List ℕ) (items fields : List Field) (i : ℕ) → items ≡ fields → length items ≤ i → list_any (λ field. is_high (raw_of msg field)) (take i items) ≡ false
    → false ≡ list_any is_high (map (raw_of msg) fields)
none_high msg items fields i same past none =
    sym (ap (λ all. list_any is_high (map (raw_of msg) all)) (sym same) ∙ any_map is_high (raw_of msg) items ∙ none_of (λ field. is_high (raw_of msg field)) items i past none)
