-- Paths (RFC 5321, 4.1.2, without source routes).
use Rattle.std.specs.Prelude.{◌≡◌, ℕ, true, List, [], ◌∷◌, ◌++◌, Option, Some, None}
use Rattle.mail_wire.specs.Characters.{less_than, greater_than}
use Rattle.field_tokens.specs.Tokens.{TokenValue}
use Rattle.address_grammar.specs.declared.Address.{Address}
use Rattle.address_grammar.specs.private.Lexemes.{HasMailTokens, is_special_of, lacks_special, are_blank}
use Rattle.address_grammar.specs.Addresses.{IsAddress}

-- tokens in angle brackets, what stands before them, and only gaps and comments after them
pub record IsAngled (tokens before inner : List TokenValue) : Type 0 where
  pub open_mark : TokenValue
  pub close_mark : TokenValue
  pub after : List TokenValue
  pub whole : tokens ≡ before ++ open_mark ∷ (inner ++ close_mark ∷ after)
  pub opens : is_special_of less_than open_mark ≡ true
  pub closes : is_special_of greater_than close_mark ≡ true
  pub following : are_blank after ≡ true

-- The tokens have their first angle brackets here: these stand before them, and these within.
pub record IsFirstAngled (tokens before inner : List TokenValue) : Type 0 where
  pub angled : IsAngled tokens before inner
  pub first_open : lacks_special less_than before ≡ true
  pub first_close : lacks_special greater_than inner ≡ true

-- nothing, or an address
abbrev pub IsPathOf : List TokenValue → Option Address → Type 0
IsPathOf tokens None = are_blank tokens ≡ true
IsPathOf tokens (Some address) = IsAddress tokens address

-- the tokens are a path; gaps and comments may stand anywhere between them
pub record IsPath (tokens : List TokenValue) (answer : Option Address) : Type 0 where
  pub before : List TokenValue
  pub inner : List TokenValue
  pub angled : IsAngled tokens before inner
  pub nothing_before : are_blank before ≡ true
  pub holds : IsPathOf inner answer

-- the text is a path, and the null path has no address
pub record HasPath (text : List ℕ) (answer : Option Address) : Type 0 where
  pub tokens : List TokenValue
  pub has_tokens : HasMailTokens text tokens
  pub is_path : IsPath tokens answer

-- some path has this address
abbrev pub ComesInPath : Address → Type 0
ComesInPath address = (text : List ℕ) × HasPath text (Some address)

-- The octets between angle brackets.
abbrev pub in_angles : List ℕ → List ℕ
in_angles octets = less_than ∷ (octets ++ greater_than ∷ [])

-- what a text says that may be a path
abbrev pub IsReading : List ℕ → Option (Option Address) → Type 0
IsReading text None = (answer : Option Address) → ¬ HasPath text answer
IsReading text (Some answer) = HasPath text answer

-- The function gives what each path says, and nothing of a text that is none. (A text is one path at most.)
abbrev pub ReadsPaths : (List ℕ → Option (Option Address)) → Type 0
ReadsPaths path_of = (text : List ℕ) → IsReading text (path_of text)
