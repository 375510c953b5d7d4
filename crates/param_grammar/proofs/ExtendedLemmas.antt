-- An extended value is cut in one way, and what its octets say.
use Rattle.std.proofs.Common.{◌≡◌, ℕ, Bool, true, false, List, [], ◌∷◌, ◌++◌, sym, ap, ◌∙◌, subst}
use Rattle.std.proofs.lemmas.Bool.{true≢false}
use Rattle.std.specs.List.{list_all}
use Rattle.std.specs.Str.{is_utf8, str_to_ascii_lowercase}
use Rattle.encoded_words.specs.Words.{is_token_octet}
use Rattle.encoded_words.specs.private.Parts.{lacks}
use Rattle.encoded_words.proofs.Cuts.{cut_once, not_lacking}
use Rattle.encoded_words.proofs.Charsets.{or_nothing}
use Rattle.param_grammar.specs.Extended.{IsExtended, is_text_of}

pub not-IsExtended-first : (value : List ℕ) → lacks 39 value ≡ true → (charset text : List ℕ) → IsExtended value charset text → ⊥
not-IsExtended-first value none charset text is = not_lacking 39 charset (is.language ++ 39 ∷ text) (subst (λ xs. lacks 39 xs ≡ true) is.spelled none)

-- a value that is cut at its first apostrophe
value_cut : (value charset after cs text : List ℕ) → value ≡ charset ++ 39 ∷ after → lacks 39 charset ≡ true → (is : IsExtended value cs text)
    → (cs ≡ charset) × (is.language ++ 39 ∷ text ≡ after)
value_cut value charset after cs text cut first is = cut_once 39 cs charset (is.language ++ 39 ∷ text) after is.charset_first first (sym is.spelled ∙ cut)

pub not-IsExtended-second : (value charset after : List ℕ) → value ≡ charset ++ 39 ∷ after → lacks 39 charset ≡ true → lacks 39 after ≡ true
    → (cs text : List ℕ) → IsExtended value cs text → ⊥
not-IsExtended-second value charset after cut first none cs text is =
    let once = value_cut value charset after cs text cut first is in
    not_lacking 39 is.language text (subst (λ xs. lacks 39 xs ≡ true) (sym once.1) none)

pub not-IsExtended-charset : (value charset after : List ℕ) → value ≡ charset ++ 39 ∷ after → lacks 39 charset ≡ true → list_all is_token_octet charset ≡ false
    → (cs text : List ℕ) → IsExtended value cs text → ⊥
not-IsExtended-charset value charset after cut first none cs text is =
    let once = value_cut value charset after cs text cut first is in
    true≢false (sym is.charset_is ∙ ap (list_all is_token_octet) once.0 ∙ none)

-- a value has one charset and one text
pub IsExtended-once : (value c t d u : List ℕ) → IsExtended value c t → IsExtended value d u → (c ≡ d) × (t ≡ u)
IsExtended-once value c t d u p q =
    let once = value_cut value d (q.language ++ 39 ∷ u) c t q.spelled q.charset_first p in
    (once.0, (cut_once 39 p.language q.language t u p.language_first q.language_first once.1).1)

-- octets without a charset
pub text_of_nothing : (charset octets : List ℕ) (b : Bool) → charset ≡ [] → b ≡ is_utf8 octets → b ≡ is_text_of (str_to_ascii_lowercase charset) octets
text_of_nothing charset octets b none e = e ∙ rw none (or_nothing (is_utf8 octets))
