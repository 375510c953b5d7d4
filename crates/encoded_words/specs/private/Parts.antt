-- How a word is cut into its parts.
use Rattle.std.specs.Prelude.{◌≡◌, ℕ, ◌==◌, Bool, not, List, [], ◌∷◌, ◌++◌, Option, IfSome}
use Rattle.std.specs.Option.{option_copied}
use Rattle.std.specs.List.{list_all}
use Rattle.encoded_words.specs.declared.word.Parts.{Parts}
use Rattle.encoded_words.specs.Words.{WordParts, IsName, language_suffix}

-- no octet of the list is b
abbrev pub lacks : ℕ → List ℕ → Bool
lacks b xs = list_all (λ x. not (x == b)) xs

-- `=?`, inner, `?=`
abbrev pub wrapped : List ℕ → List ℕ
wrapped inner = 61 ∷ 63 ∷ (inner ++ 63 ∷ 61 ∷ [])

abbrev pub parts_value : Parts → WordParts
parts_value p = record { charset = p.charset.now; language = option_copied p.language; letter = p.letter; text = p.text.now }

-- the name is a charset, and `*` and a language where there is one
pub record IsCharsetName (name charset : List ℕ) (language : Option (List ℕ)) : Type 0 where
  pub spelled : name ≡ charset ++ language_suffix language
  pub charset_is : IsName charset
  pub language_is : IfSome language IsName
