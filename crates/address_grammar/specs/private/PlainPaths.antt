-- Paths without quotes, gaps, comments and literals.
use Rattle.std.specs.Prelude.{◌≡◌, ℕ, true, List, [], ◌∷◌, ◌++◌, IsUtf8}
use Rattle.address_grammar.specs.Addresses.{is_dot_atom}

-- the text is `<local@domain>`, each of these two atoms divided by dots
pub record IsPlainPath (text local domain : List ℕ) : Type 0 where
  pub whole : text ≡ 60 ∷ ((local ++ 64 ∷ domain) ++ 62 ∷ [])
  pub is_local : is_dot_atom local ≡ true
  pub is_domain : is_dot_atom domain ≡ true
  pub utf8 : IsUtf8 text
