-- Where a list's places end: at a comma outside angle brackets and groups.
use Rattle.std.specs.Prelude.{◌≡◌, ◌≢◌, ℕ, true, if◌then◌else◌, List, [], ◌∷◌, ◌++◌, Option, Some, None}
use Rattle.field_tokens.specs.Tokens.{TokenValue}
use Rattle.address_grammar.specs.private.Lexemes.{is_special_of}

-- what is awaited after a token: where nothing is, `>` after `<` and `;` after `:`. A comma ends the place.
abbrev pub awaited_after : Option ℕ → TokenValue → Option (Option ℕ)
awaited_after None t = if is_special_of 44 t then None else (if is_special_of 60 t then Some (Some 62) else (if is_special_of 58 t then Some (Some 59) else Some None))
awaited_after (Some mark) t = if is_special_of mark t then Some None else Some (Some mark)

abbrev pub and_then : Option (Option ℕ) → (Option ℕ → Option (Option ℕ)) → Option (Option ℕ)
and_then None f = None
and_then (Some awaited) f = f awaited

-- what is awaited after tokens, or nothing where the place ends within them
abbrev pub walk : Option ℕ → List TokenValue → Option (Option ℕ)
walk awaited [] = Some awaited
walk awaited (t ∷ tokens) = and_then (awaited_after awaited t) (λ next. walk next tokens)

-- the tokens are a place, a comma and rest
pub record SplitsPlace (tokens place rest : List TokenValue) : Type 0 where
  pub comma : TokenValue
  pub whole : tokens ≡ place ++ comma ∷ rest
  pub is_comma : is_special_of 44 comma ≡ true
  pub walked : walk None place ≡ Some None

-- no place ends within the tokens
abbrev pub IsLastPlace : List TokenValue → Type 0
IsLastPlace tokens = walk None tokens ≢ None
