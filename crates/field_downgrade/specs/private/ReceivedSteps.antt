-- What the steps of the code do with Received fields.
use Rattle.std.specs.Prelude.{◌≡◌, ℕ, Bool, true, not, List, [], ◌∷◌, ◌++◌, Option, Some, None, ⊤}
use Rattle.std.specs.List.{AllByRecursion, list_all, flat_map}
use Rattle.field_tokens.specs.declared.Style.{Style}
use Rattle.field_tokens.specs.declared.lexemes.Lexemes.{Lexemes}
use Rattle.field_tokens.specs.Lexemes.{values_of}
use Rattle.field_tokens.specs.Squeezed.{octets_of}
use Rattle.field_tokens.specs.Tokens.{TokenValue, HasTokenValues}
use Rattle.field_downgrade.specs.Received.{ClauseTokens, IsClause, is_semicolon, clause_tokens, date_tokens, ClausesPieces}

-- the tokens of their octets
abbrev pub AreRead : Style → List TokenValue → Type 0
AreRead style tokens = HasTokenValues style (octets_of tokens) tokens

-- there are no tokens, or the first one passes
abbrev pub EndsOrBeginsSo : (TokenValue → Bool) → List TokenValue → Type 0
EndsOrBeginsSo p [] = ⊤
EndsOrBeginsSo p (t ∷ ts) = p t ≡ true

-- the tokens before the first one that passes, and the others
pub record CutsTokens (p : TokenValue → Bool) (tokens front rest : List TokenValue) : Type 0 where
  pub whole : tokens ≡ front ++ rest
  pub before : list_all (λ t. not (p t)) front ≡ true
  pub begins : EndsOrBeginsSo p rest

-- the tokens after a semicolon, where there is one
abbrev pub tokens_after : Option Lexemes → Option (List TokenValue)
tokens_after None = None
tokens_after (Some date) = Some (values_of date)

-- the tokens before the first semicolon, and those after it
pub record CutsDate (tokens head : List TokenValue) (date : Option (List TokenValue)) : Type 0 where
  pub whole : tokens ≡ head ++ date_tokens date
  pub before : list_all (λ t. not (is_semicolon t)) head ≡ true

-- the clause of a token and those after it
abbrev pub clause_at : TokenValue → List TokenValue → ClauseTokens
clause_at word following = record { word = word; following = following }

-- the tokens are clauses, and these are their pieces
pub record WritesClauses (tokens : List TokenValue) (pieces : List (List ℕ)) : Type 0 where
  pub clauses : List ClauseTokens
  pub whole : tokens ≡ flat_map clause_tokens clauses
  pub are_clauses : AllByRecursion IsClause clauses
  pub pieces_are : ClausesPieces clauses pieces
