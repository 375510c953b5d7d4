-- The octets of an encoded word.
use Rattle.std.proofs.Common.{◌≡◌, ℕ, ◌<◌, Bool, true, ◌⊎◌, inl, inr, List, [], ◌∷◌, ◌++◌, length, Option, Some, None, IfSome, refl, arith}
use Rattle.std.proofs.lemmas.Bool.{and_parts, and_from}
use Rattle.std.proofs.lemmas.Bool.Decides.{nat_tests}
use Rattle.std.specs.List.{list_all}
use Rattle.std.specs.Char.{to_ascii_uppercase}
use Rattle.mail_wire.specs.Octets.{is_ascii, is_nonwhite}
use Rattle.mail_wire.proofs.AllLemmas.{pass-weaker, pass-append}
use Rattle.encoded_words.specs.Words.{UnitValue, IsEncodedWord, IsTextOf, language_suffix, is_token_octet, is_text_octet, IsName}

-- what holds of each octet that an encoded word may have
pub record HoldsInWords (p : ℕ → Bool) : Type 0 where
  pub name : (x : ℕ) → is_token_octet x ≡ true → p x ≡ true
  pub text : (x : ℕ) → is_text_octet x ≡ true → p x ≡ true
  pub letter : (x : ℕ) → (to_ascii_uppercase x ≡ 66) ⊎ (to_ascii_uppercase x ≡ 81) → p x ≡ true
  pub marks : list_all p (61 ∷ 63 ∷ 42 ∷ []) ≡ true

letter_holds : (p : ℕ → Bool) → HoldsInWords p → (letter : ℕ) (text octets : List ℕ) → IsTextOf letter text octets → p letter ≡ true
letter_holds p holds letter text octets (inl b) = holds.letter letter (inl b.0)
letter_holds p holds letter text octets (inr q) = holds.letter letter (inr q.0)

language_holds : (p : ℕ → Bool) → HoldsInWords p → p 42 ≡ true → (language : Option (List ℕ)) → IfSome language IsName → list_all p (language_suffix language) ≡ true
language_holds p holds star None is = refl
language_holds p holds star (Some l) is = and_from (p 42) (list_all p l) star (pass-weaker is_token_octet p holds.name l is.1)

pub encoded_all : (p : ℕ → Bool) → HoldsInWords p → (word : List ℕ) (u : UnitValue) → IsEncodedWord word u → list_all p word ≡ true
encoded_all p holds word u is =
    let w = is.parts in
    let has = is.has_parts in
    let first = and_parts (p 61) (list_all p (63 ∷ 42 ∷ [])) holds.marks in
    let second = and_parts (p 63) (list_all p (42 ∷ [])) first.1 in
    let third = and_parts (p 42) true second.1 in
    let ending : list_all p (63 ∷ 61 ∷ []) ≡ true = and_from (p 63) (list_all p (61 ∷ [])) second.0 (and_from (p 61) true first.0 refl) in
    let text : list_all p (w.text ++ 63 ∷ 61 ∷ []) ≡ true = pass-append p w.text (63 ∷ 61 ∷ []) (pass-weaker is_text_octet p holds.text w.text has.text.1) ending in
    let coded : list_all p (63 ∷ w.letter ∷ 63 ∷ (w.text ++ 63 ∷ 61 ∷ [])) ≡ true
    = and_from (p 63) (list_all p (w.letter ∷ 63 ∷ (w.text ++ 63 ∷ 61 ∷ []))) second.0
    (and_from (p w.letter) (list_all p (63 ∷ (w.text ++ 63 ∷ 61 ∷ []))) (letter_holds p holds w.letter w.text is.octets is.spells)
    (and_from (p 63) (list_all p (w.text ++ 63 ∷ 61 ∷ [])) second.0 text)) in
    let rest : List ℕ = w.charset ++ (language_suffix w.language ++ 63 ∷ w.letter ∷ 63 ∷ (w.text ++ 63 ∷ 61 ∷ [])) in
    rw (has.spelled)
    (and_from (p 61) (list_all p (63 ∷ rest)) first.0 (and_from (p 63) (list_all p rest) second.0
    (pass-append p w.charset (language_suffix w.language ++ 63 ∷ w.letter ∷ 63 ∷ (w.text ++ 63 ∷ 61 ∷ [])) (pass-weaker is_token_octet p holds.name w.charset has.charset.1)
    (pass-append p (language_suffix w.language) (63 ∷ w.letter ∷ 63 ∷ (w.text ++ 63 ∷ 61 ∷ [])) (language_holds p holds third.0 w.language has.language) coded))))

pub ascii_letter : (x : ℕ) → (to_ascii_uppercase x ≡ 66) ⊎ (to_ascii_uppercase x ≡ 81) → is_ascii x ≡ true
ascii_letter x (inl h) = grind (arith, nat_tests)
ascii_letter x (inr h) = grind (arith, nat_tests)

pub nonwhite_letter : (x : ℕ) → (to_ascii_uppercase x ≡ 66) ⊎ (to_ascii_uppercase x ≡ 81) → is_nonwhite x ≡ true
nonwhite_letter x (inl h) = grind (arith, nat_tests)
nonwhite_letter x (inr h) = grind (arith, nat_tests)

pub ascii_name : (x : ℕ) → is_token_octet x ≡ true → is_ascii x ≡ true
ascii_name x h = grind (arith, nat_tests)

pub ascii_text : (x : ℕ) → is_text_octet x ≡ true → is_ascii x ≡ true
ascii_text x h = grind (arith, nat_tests)

pub nonwhite_name : (x : ℕ) → is_token_octet x ≡ true → is_nonwhite x ≡ true
nonwhite_name x h = grind (arith, nat_tests)

pub nonwhite_text : (x : ℕ) → is_text_octet x ≡ true → is_nonwhite x ≡ true
nonwhite_text x h = grind (arith, nat_tests)

-- an encoded word is ASCII
pub encoded_ascii : (word : List ℕ) (u : UnitValue) → IsEncodedWord word u → list_all is_ascii word ≡ true
encoded_ascii word u is = encoded_all is_ascii (record { name = ascii_name; text = ascii_text; letter = ascii_letter; marks = refl }) word u is

-- an encoded word has no white
pub encoded_nonwhite : (word : List ℕ) (u : UnitValue) → IsEncodedWord word u → list_all is_nonwhite word ≡ true
encoded_nonwhite word u is = encoded_all is_nonwhite (record { name = nonwhite_name; text = nonwhite_text; letter = nonwhite_letter; marks = refl }) word u is

-- nor is it empty
pub encoded_some : (word : List ℕ) (u : UnitValue) → IsEncodedWord word u → 0 < length word
encoded_some word u is = let spelled = is.has_parts.spelled in rw spelled (omega arith)
