-- What the grammar of addresses knows of tokens (RFC 5322, 3.2).
use Rattle.std.specs.Prelude.{◌≡◌, ℕ, ◌-◌, ◌==◌, Bool, true, false, not, ◌&&◌, if◌then◌else◌, List, [], ◌∷◌, ◌++◌, length, take, drop}
use Rattle.std.specs.List.{flat_map, list_all}
use Rattle.std.specs.Str.{bytes_eq}
use Rattle.field_tokens.specs.declared.Style.TheVariants.{Mail}
use Rattle.field_tokens.specs.declared.TokenKind.{TokenKind}
use Rattle.field_tokens.specs.declared.TokenKind.TheVariants.{Atom, Quoted, Literal, Special, Gap, Comment}
use Rattle.field_tokens.specs.Tokens.{TokenValue, HasTokenValues as HasTokenValuesIn}
use Rattle.field_tokens.specs.Squeezed.{is_blank, is_atom_kind, is_special_kind, words_of}

-- the text is a line, and these are its tokens
abbrev pub HasMailTokens : List ℕ → List TokenValue → Type 0
HasMailTokens text tokens = HasTokenValuesIn Mail text tokens

-- a gap or a comment, which may stand between any two tokens (RFC 5322, 3.2.2, CFWS)
abbrev pub is_blank_token : TokenValue → Bool
is_blank_token t = is_blank t.kind

abbrev pub are_blank : List TokenValue → Bool
are_blank tokens = list_all is_blank_token tokens

-- the special of this octet
abbrev pub is_special_of : ℕ → TokenValue → Bool
is_special_of mark t = is_special_kind t.kind && bytes_eq t.octets (mark ∷ [])

-- none of the tokens is that special
abbrev pub lacks_special : ℕ → List TokenValue → Bool
lacks_special mark tokens = list_all (λ t. not (is_special_of mark t)) tokens

-- what stands before the first special of this octet, and what stands after it
pub record SplitsAt (mark : ℕ) (tokens before after : List TokenValue) : Type 0 where
  pub at : TokenValue
  pub whole : tokens ≡ before ++ at ∷ after
  pub is_at : is_special_of mark at ≡ true
  pub first : lacks_special mark before ≡ true

abbrev pub is_atom : TokenValue → Bool
is_atom t = is_atom_kind t.kind

-- an atom or a quoted string (RFC 5322, 3.2.5, word)
abbrev pub is_word_kind : TokenKind → Bool
is_word_kind Atom = true
is_word_kind Quoted = true
is_word_kind Literal = false
is_word_kind Special = false
is_word_kind Gap = false
is_word_kind Comment = false

abbrev pub is_word : TokenValue → Bool
is_word t = is_word_kind t.kind

-- what may stand between the dots of a domain, or where quoted strings are allowed of a local part
abbrev pub is_part : Bool → TokenValue → Bool
is_part true t = is_word t
is_part false t = is_atom t

abbrev pub is_literal_kind : TokenKind → Bool
is_literal_kind Literal = true
is_literal_kind Atom = false
is_literal_kind Quoted = false
is_literal_kind Special = false
is_literal_kind Gap = false
is_literal_kind Comment = false

-- octets without the backslashes that quote what stands after them (RFC 5322, 3.2.1), where one stands before them or
-- does not
abbrev pub unquoted : Bool → List ℕ → List ℕ
unquoted is_quoted [] = []
unquoted true (x ∷ octets) = x ∷ unquoted false octets
unquoted false (x ∷ octets) = if x == 92 then unquoted true octets else x ∷ unquoted false octets

-- what stands between the first octet and the last one
abbrev pub inner_octets : List ℕ → List ℕ
inner_octets octets = take (length octets - 2) (drop 1 octets)

-- what a token says: a quoted string its content, gaps and comments nothing, and others their octets
abbrev pub said_content : TokenKind → List ℕ → List ℕ
said_content Quoted octets = unquoted false (inner_octets octets)
said_content Gap octets = []
said_content Comment octets = []
said_content Atom octets = octets
said_content Literal octets = octets
said_content Special octets = octets

abbrev pub content : TokenValue → List ℕ
content t = said_content t.kind t.octets

abbrev pub says_itself_kind : TokenKind → Bool
says_itself_kind Atom = true
says_itself_kind Literal = true
says_itself_kind Special = true
says_itself_kind Quoted = false
says_itself_kind Gap = false
says_itself_kind Comment = false

-- what a token says is its octets
abbrev pub says_itself : TokenValue → Bool
says_itself t = says_itself_kind t.kind

-- what tokens say, one after another
abbrev pub contents : List TokenValue → List ℕ
contents tokens = flat_map content tokens

-- one or more words that pass, with one dot between each two
abbrev pub are_dotted : (TokenValue → Bool) → List TokenValue → Bool
are_dotted p [] = false
are_dotted p (word ∷ []) = p word
are_dotted p (word ∷ dot ∷ words) = p word && (is_special_of 46 dot && are_dotted p words)

-- the first word passes, and rest stands after it
pub record BeginsSo (p : TokenValue → Bool) (tokens rest : List TokenValue) : Type 0 where
  pub word : TokenValue
  pub words : words_of tokens ≡ word ∷ words_of rest
  pub passes : p word ≡ true

-- the first word, if there is one, doesn't pass
abbrev pub BeginsOther : (TokenValue → Bool) → List TokenValue → Type 0
BeginsOther p tokens = (word : TokenValue) (words : List TokenValue) → words_of tokens ≡ word ∷ words → p word ≡ false
