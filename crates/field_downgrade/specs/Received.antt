-- Received fields (RFC 5322, 3.6.7; RFC 5321, 4.4): clauses, and after a semicolon a date.
use Rattle.std.specs.Prelude.{◌≡◌, ℕ, Bool, true, not, ◌&&◌, ◌||◌, ◌==◌, cond, codes, List, [], ◌∷◌, ◌++◌, map, Option, Some, None}
use Rattle.std.specs.List.{AllByRecursion, list_all, list_any, flat_map, slice_split}
use Rattle.std.specs.Str.{bytes_eq, str_to_ascii_lowercase}
use Rattle.mail_wire.specs.Characters.{space, dot, semicolon as semicolon_octet}
use Rattle.mail_wire.specs.Octets.{is_ascii, same_name}
use Rattle.field_tokens.specs.declared.Style.TheVariants.{Mail}
use Rattle.field_tokens.specs.declared.TokenKind.TheVariants.{Special}
use Rattle.field_tokens.specs.Tokens.{TokenValue, HasTokenValues}
use Rattle.field_tokens.specs.Squeezed.{is_blank, squeezed_values, comments_of, is_atom_kind, is_special_kind}
use Rattle.field_tokens.specs.Comments.{CommentValue, CommentsSay, CommentsPieces}
use Rattle.ace_domains.specs.Domains.{normal_form}

-- ---- the division into clauses

-- the words that start clauses, in any case
abbrev pub is_clause_word : List ℕ → Bool
is_clause_word word =
    (same_name word (codes "from") || (same_name word (codes "by") || same_name word (codes "via")))
    || (same_name word (codes "with") || (same_name word (codes "id") || same_name word (codes "for")))

-- an atom that is such a word starts a clause
abbrev pub starts_clause : TokenValue → Bool
starts_clause token = is_atom_kind token.kind && is_clause_word token.octets

-- a semicolon ends the clauses
abbrev pub is_semicolon : TokenValue → Bool
is_semicolon token = is_special_kind token.kind && bytes_eq token.octets (semicolon_octet ∷ [])

-- any other token may stand within a clause
abbrev pub is_inner : TokenValue → Bool
is_inner token = not (starts_clause token) && not (is_semicolon token)

-- a clause: the token that starts it, and the tokens after it
pub record ClauseTokens : Type 0 where
  pub word : TokenValue
  pub following : List TokenValue

-- The first token may start a clause, and those after it start no other and end none (RFC 5321, 4.4).
pub record IsClause (clause : ClauseTokens) : Type 0 where
  pub starts : starts_clause clause.word ≡ true
  pub inner : list_all is_inner clause.following ≡ true

-- The token that starts a clause, and those after it.
abbrev pub clause_tokens : ClauseTokens → List TokenValue
clause_tokens clause = clause.word ∷ clause.following

-- what stands before the first clause, the clauses, and what stands after the semicolon, where there is one
pub record ReceivedParts : Type 0 where
  pub front : List TokenValue
  pub clauses : List ClauseTokens
  pub date : Option (List TokenValue)

-- The semicolon before the date of a Received field (RFC 5322, 3.6.7).
abbrev pub semicolon : TokenValue
semicolon = record { kind = Special; octets = semicolon_octet ∷ [] }

-- The semicolon and the tokens of the date, where there is one (RFC 5322, 3.6.7).
abbrev pub date_tokens : Option (List TokenValue) → List TokenValue
date_tokens None = []
date_tokens (Some tokens) = semicolon ∷ tokens

-- only gaps and comments
abbrev pub are_blank_tokens : List TokenValue → Bool
are_blank_tokens tokens = list_all (λ (token : TokenValue). is_blank token.kind) tokens

-- the tokens have these parts
pub record AreReceivedParts (tokens : List TokenValue) (parts : ReceivedParts) : Type 0 where
  pub whole : tokens ≡ parts.front ++ (flat_map clause_tokens parts.clauses ++ date_tokens parts.date)
  pub blank : are_blank_tokens parts.front ≡ true
  pub are_clauses : AllByRecursion IsClause parts.clauses

-- no date has no text
abbrev pub date_text : Option (List TokenValue) → List ℕ
date_text None = []
date_text (Some tokens) = squeezed_values tokens

-- the tokens of a text, and their parts, of which the date is ASCII
pub record IsReceived (text : List ℕ) (tokens : List TokenValue) (parts : ReceivedParts) : Type 0 where
  pub has : HasTokenValues Mail text tokens
  pub are_parts : AreReceivedParts tokens parts
  pub ascii : list_all is_ascii (date_text parts.date) ≡ true

-- ---- what it says

-- the word of a clause in lower case, and the text after it without comments
pub record Clause : Type 0 where
  pub word : List ℕ
  pub text : List ℕ

-- The word of a clause in lower case, and the text after it without comments.
abbrev pub clause_of : ClauseTokens → Clause
clause_of clause = record { word = str_to_ascii_lowercase clause.word.octets; text = squeezed_values clause.following }

-- The text of a date without comments, where there is one.
abbrev pub date_of : Option (List TokenValue) → Option (List ℕ)
date_of None = None
date_of (Some tokens) = Some (squeezed_values tokens)

-- the text has these clauses, this date and these comments
pub record SaysReceived (text : List ℕ) (clauses : List Clause) (date : Option (List ℕ)) (comments : List CommentValue) : Type 0 where
  pub tokens : List TokenValue
  pub parts : ReceivedParts
  pub is_received : IsReceived text tokens parts
  pub clauses_are : clauses ≡ map clause_of parts.clauses
  pub date_is : date ≡ date_of parts.date
  pub comments_say : CommentsSay (comments_of tokens) comments

-- ---- clauses as they are served

-- the clauses that name a host
abbrev pub is_host_word : List ℕ → Bool
is_host_word word = same_name word (codes "from") || same_name word (codes "by")

-- one of the labels starts a clause
abbrev pub holds_clause_word : List ℕ → Bool
holds_clause_word form = list_any is_clause_word (slice_split (λ x. x == dot) form)

-- The form of a host's name, unless a label of it would start a clause.
abbrev pub unless_word : Option (List ℕ) → Option (List ℕ)
unless_word None = None
unless_word (Some form) = cond (holds_clause_word form) None (Some form)

-- A text that is ASCII stays. The name of a host is served in its normal form, unless a label of that starts a clause.
abbrev pub served_text : List ℕ → List ℕ → Option (List ℕ)
served_text word text = cond (list_all is_ascii text) (Some text) (cond (is_host_word word) (unless_word (normal_form text)) None)

-- The clause of this word and text, or none where there is no text.
abbrev pub clause_with : List ℕ → Option (List ℕ) → List Clause
clause_with word None = []
clause_with word (Some text) = record { word = word; text = text } ∷ []

-- a clause whose text isn't served is dropped
abbrev pub served_clauses : List Clause → List Clause
served_clauses clauses = flat_map (λ (clause : Clause). clause_with clause.word (served_text clause.word clause.text)) clauses

-- ---- its pieces

-- a text after a space, where there is one
abbrev pub with_space_before : List ℕ → List ℕ
with_space_before [] = []
with_space_before (x ∷ xs) = space ∷ x ∷ xs

-- The word of a clause and its text, or nothing where the text can't be served.
abbrev pub served_piece : List ℕ → Option (List ℕ) → List (List ℕ)
served_piece word None = []
served_piece word (Some text) = (word ++ with_space_before text) ∷ []

-- the pieces of a clause: the clause as it is served, with its word as it is written, and its comments
pub record ClausePieces (clause : ClauseTokens) (pieces : List (List ℕ)) : Type 0 where
  pub comments : List (List ℕ)
  pub comments_are : CommentsPieces (comments_of clause.following) comments
  pub pieces_are : pieces ≡ served_piece clause.word.octets (served_text clause.word.octets (squeezed_values clause.following)) ++ comments

-- The pieces of the clauses, one clause after another.
abbrev pub ClausesPieces : List ClauseTokens → List (List ℕ) → Type 0
ClausesPieces [] pieces = pieces ≡ []
ClausesPieces (clause ∷ clauses) pieces = (first more : List (List ℕ)) × (pieces ≡ first ++ more) × ClausePieces clause first × ClausesPieces clauses more

-- the pieces of a date: the semicolon with the date's text, and its comments
abbrev pub DatePieces : Option (List TokenValue) → List (List ℕ) → Type 0
DatePieces None pieces = pieces ≡ []
DatePieces (Some tokens) pieces = (comments : List (List ℕ)) × CommentsPieces (comments_of tokens) comments × (pieces ≡ (semicolon_octet ∷ with_space_before (squeezed_values tokens)) ∷ comments)

-- the pieces of the comments before the clauses, of the clauses, and of the date
pub record PartsPieces (parts : ReceivedParts) (pieces : List (List ℕ)) : Type 0 where
  pub front : List (List ℕ)
  pub clauses : List (List ℕ)
  pub date : List (List ℕ)
  pub front_are : CommentsPieces (comments_of parts.front) front
  pub clauses_are : ClausesPieces parts.clauses clauses
  pub date_are : DatePieces parts.date date
  pub pieces_are : pieces ≡ front ++ (clauses ++ date)

-- The pieces of a Received field: those of its front, of its clauses and of its date.
pub record ReceivedPieces (text : List ℕ) (pieces : List (List ℕ)) : Type 0 where
  pub tokens : List TokenValue
  pub parts : ReceivedParts
  pub is_received : IsReceived text tokens parts
  pub parts_pieces : PartsPieces parts pieces
