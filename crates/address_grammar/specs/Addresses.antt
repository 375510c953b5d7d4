-- One address, and its text (RFC 5322, 3.4.1; RFC 6532, 3.2).
use Rattle.std.specs.Prelude.{◌≡◌, ℕ, ◌==◌, Bool, true, false, ◌||◌, if◌then◌else◌, List, [], ◌∷◌, ◌++◌}
use Rattle.std.specs.List.{flat_map, list_all, slice_split}
use Rattle.mail_wire.specs.Characters.{quote, dot, at_sign, backslash}
use Rattle.field_tokens.specs.declared.Style.TheVariants.{Mail}
use Rattle.field_tokens.specs.Tokens.{TokenValue}
use Rattle.field_tokens.specs.TokenOctets.{is_atom_octet}
use Rattle.address_grammar.specs.declared.Address.{Address}
use Rattle.address_grammar.specs.private.Lexemes.{is_special_of, is_part, is_literal_kind, contents, are_dotted}
use Rattle.field_tokens.specs.Squeezed.{words_of}

-- atoms and quoted strings divided by dots
abbrev pub IsLocal : List TokenValue → Type 0
IsLocal tokens = are_dotted (is_part true) (words_of tokens) ≡ true

-- The only token is a domain literal (RFC 5322, 3.4.1).
abbrev pub is_one_literal : List TokenValue → Bool
is_one_literal [] = false
is_one_literal (word ∷ []) = is_literal_kind word.kind
is_one_literal (word ∷ next ∷ words) = false

-- atoms divided by dots, or a literal
abbrev pub is_domain : List TokenValue → Bool
is_domain tokens = are_dotted (is_part false) (words_of tokens) || is_one_literal (words_of tokens)

-- a local part, `@` and a domain, and what they say
pub record IsAddress (tokens : List TokenValue) (address : Address) : Type 0 where
  pub local : List TokenValue
  pub at : TokenValue
  pub domain : List TokenValue
  pub whole : tokens ≡ local ++ at ∷ domain
  pub is_at : is_special_of at_sign at ≡ true
  pub is_local : IsLocal local
  pub is_domain : is_domain domain ≡ true
  pub local_says : address.local ≡ contents local
  pub domain_says : address.domain ≡ contents domain

-- ---- the text of an address

-- One or more octets, all of which may stand in an atom (RFC 5322, 3.2.3).
abbrev pub is_some_atom : List ℕ → Bool
is_some_atom [] = false
is_some_atom (x ∷ octets) = list_all (is_atom_octet Mail) (x ∷ octets)

-- atoms divided by dots (RFC 5322, 3.2.3, dot-atom-text)
abbrev pub is_dot_atom : List ℕ → Bool
is_dot_atom octets = list_all is_some_atom (slice_split (λ x. x == dot) octets)

-- an octet of a quoted string's content: a quote and a backslash are quoted
abbrev pub quoted_octet : ℕ → List ℕ
quoted_octet x = if (x == quote) || (x == backslash) then backslash ∷ x ∷ [] else x ∷ []

-- The content between double quotes, with a backslash before each quote and backslash in it (RFC 5322, 3.2.4).
abbrev pub quoted_string : List ℕ → List ℕ
quoted_string content = quote ∷ (flat_map quoted_octet content ++ quote ∷ [])

-- a local part as it stands where it is atoms divided by dots, and else as a quoted string
abbrev pub local_text : List ℕ → List ℕ
local_text local = if is_dot_atom local then local else quoted_string local

-- The local part, an at sign and the domain (RFC 5322, 3.4.1).
abbrev pub address_text : Address → List ℕ
address_text address = local_text address.local ++ at_sign ∷ address.domain
