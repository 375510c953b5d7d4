-- Lists of addresses (RFC 5322, 3.4 and 4.4).
use Rattle.std.specs.Prelude.{◌≡◌, ℕ, Bool, true, false, ◌⊎◌, List, [], ◌∷◌, ◌++◌, filter}
use Rattle.std.specs.List.{AllByRecursion}
use Rattle.mail_wire.specs.Characters.{comma, colon as colon_octet, semicolon as semicolon_octet, at_sign}
use Rattle.encoded_words.specs.Words.{UnitValue}
use Rattle.encoded_words.specs.PhraseUnits.{HasPhraseUnits}
use Rattle.field_tokens.specs.declared.Token.{Token}
use Rattle.field_tokens.specs.Tokens.{TokenValue, tokens_from}
use Rattle.field_tokens.specs.Squeezed.{is_comment}
use Rattle.field_tokens.specs.Trees.{Tree, HasComment}
use Rattle.address_grammar.specs.declared.Address.{Address}
use Rattle.address_grammar.specs.private.Lexemes.{HasMailTokens, is_special_of, are_blank}
use Rattle.address_grammar.specs.Addresses.{is_domain, IsAddress}
use Rattle.address_grammar.specs.Paths.{IsAngled}
use Rattle.address_grammar.specs.Phrases.{IsPhrase, SaysPhrase, phrase_items}

-- parts with a mark between each two
abbrev pub Divided : ℕ → List (List TokenValue) → List TokenValue → Type 0
Divided mark [] tokens = ⊥
Divided mark (part ∷ []) tokens = tokens ≡ part
Divided mark (part ∷ next ∷ parts) tokens =
    (divider : TokenValue) × (rest : List TokenValue) × (tokens ≡ part ++ divider ∷ rest) × (is_special_of mark divider ≡ true) × Divided mark (next ∷ parts) rest

-- ---- mailboxes

-- `@` and a domain of a route
pub record IsHop (tokens : List TokenValue) : Type 0 where
  pub before : List TokenValue
  pub at : TokenValue
  pub domain : List TokenValue
  pub whole : tokens ≡ before ++ at ∷ domain
  pub nothing_before : are_blank before ≡ true
  pub is_at : is_special_of at_sign at ≡ true
  pub is_domain : is_domain domain ≡ true

-- domains each with `@` before it, divided by commas (RFC 5322, 4.4, obs-domain-list)
pub record IsRoute (tokens : List TokenValue) : Type 0 where
  pub hops : List (List TokenValue)
  pub divided : Divided comma hops tokens
  pub each : AllByRecursion IsHop hops

-- a route, a colon and an address
pub record IsRouted (tokens : List TokenValue) (address : Address) : Type 0 where
  pub route : List TokenValue
  pub colon : TokenValue
  pub following : List TokenValue
  pub whole : tokens ≡ route ++ colon ∷ following
  pub is_colon : is_special_of colon_octet colon ≡ true
  pub is_route : IsRoute route
  pub is_address : IsAddress following address

-- The value of a mailbox. A route is no part of it.
pub record MailboxValue : Type 0 where
  pub phrase : Bool
  pub display : List UnitValue
  pub angle : Bool
  pub address : Address

-- an address by itself
pub record IsBare (tokens : List TokenValue) (m : MailboxValue) : Type 0 where
  pub is_address : IsAddress tokens m.address
  pub phrase : m.phrase ≡ false
  pub display : m.display ≡ []
  pub angle : m.angle ≡ false

-- The tokens are an address, or one after a source route (RFC 5322, 4.4).
abbrev pub IsRoutedOrNot : List TokenValue → Address → Type 0
IsRoutedOrNot tokens address = IsAddress tokens address ⊎ IsRouted tokens address

-- a phrase or none, and an address in angle brackets
pub record IsNamedBy (before inner : List TokenValue) (m : MailboxValue) : Type 0 where
  pub says : SaysPhrase before m.phrase m.display
  pub address : IsRoutedOrNot inner m.address
  pub angle : m.angle ≡ true

-- The tokens are a phrase or none, and an address in angle brackets, and say this mailbox (name-addr of RFC 5322, 3.4).
pub record IsNamed (tokens : List TokenValue) (m : MailboxValue) : Type 0 where
  pub before : List TokenValue
  pub inner : List TokenValue
  pub angled : IsAngled tokens before inner
  pub named : IsNamedBy before inner m

-- The tokens are a mailbox, an address by itself or one in angle brackets, and say this (RFC 5322, 3.4).
abbrev pub IsMailbox : List TokenValue → MailboxValue → Type 0
IsMailbox tokens m = IsBare tokens m ⊎ IsNamed tokens m

-- ---- parts divided by commas

-- what parts say, one after another
abbrev pub SayParts : {E : Type 0} → (List TokenValue → List E → Type 0) → List (List TokenValue) → List E → Type 0
SayParts Says [] values = values ≡ []
SayParts {E = E} Says (part ∷ parts) values = (first : List E) × (others : List E) × (values ≡ first ++ others) × Says part first × SayParts Says parts others

-- the tokens are parts divided by commas, and say this
pub record AreDivided {E : Type 0} (Says : List TokenValue → List E → Type 0) (tokens : List TokenValue) (values : List E) : Type 0 where
  pub parts : List (List TokenValue)
  pub divided : Divided comma parts tokens
  pub say : SayParts Says parts values

-- The tokens are one mailbox, and the list is of it alone.
abbrev pub IsOneMailbox : List TokenValue → List MailboxValue → Type 0
IsOneMailbox tokens [] = ⊥
IsOneMailbox tokens (m ∷ []) = IsMailbox tokens m
IsOneMailbox tokens (m ∷ n ∷ ms) = ⊥

-- ---- elements

-- mailboxes divided by commas, or nothing: a group may be empty
abbrev pub AreMembers : List TokenValue → List MailboxValue → Type 0
AreMembers tokens members = ((are_blank tokens ≡ true) × (members ≡ [])) ⊎ AreDivided IsOneMailbox tokens members

-- An element of a list of addresses: a mailbox, or a group by its name and its members (RFC 5322, 3.4).
pub data ElementValue : Type 0 where
  One : MailboxValue → ElementValue
  Group : List UnitValue → List MailboxValue → ElementValue

-- a name, and members and `;` after its colon
pub record IsGroupBy (before following : List TokenValue) (name : List UnitValue) (members : List MailboxValue) : Type 0 where
  pub inner : List TokenValue
  pub semicolon : TokenValue
  pub after : List TokenValue
  pub whole : following ≡ inner ++ semicolon ∷ after
  pub is_semicolon : is_special_of semicolon_octet semicolon ≡ true
  pub nothing_after : are_blank after ≡ true
  pub is_phrase : IsPhrase before
  pub says : HasPhraseUnits (phrase_items before) name
  pub are_members : AreMembers inner members

-- a phrase, `:`, members and `;`
pub record IsGroup (tokens : List TokenValue) (name : List UnitValue) (members : List MailboxValue) : Type 0 where
  pub before : List TokenValue
  pub colon : TokenValue
  pub following : List TokenValue
  pub whole : tokens ≡ before ++ colon ∷ following
  pub is_colon : is_special_of colon_octet colon ≡ true
  pub group : IsGroupBy before following name members

-- The tokens are a mailbox or a group, and say this (address of RFC 5322, 3.4).
abbrev pub IsElement : List TokenValue → ElementValue → Type 0
IsElement tokens (One m) = IsMailbox tokens m
IsElement tokens (Group name members) = IsGroup tokens name members

-- ---- lists

-- an element, or nothing
abbrev pub SaysPlace : List TokenValue → List ElementValue → Type 0
SaysPlace tokens [] = are_blank tokens ≡ true
SaysPlace tokens (e ∷ []) = IsElement tokens e
SaysPlace tokens (e ∷ f ∷ es) = ⊥

-- The comments among tokens, in their order.
abbrev pub comment_tokens : List Token → List Token
comment_tokens tokens = filter (λ t. is_comment t.kind) tokens

-- the trees of comments, one for each
abbrev pub HaveTrees : List ℕ → List Token → List Tree → Type 0
HaveTrees text [] [] = Unit {0}
HaveTrees text [] (tree ∷ trees) = ⊥
HaveTrees text (token ∷ tokens) [] = ⊥
HaveTrees text (token ∷ tokens) (tree ∷ trees) = HasComment text token tree × HaveTrees text tokens trees

-- the text is a list of these elements, and has these comments, in the order of its octets
pub record HasAddresses (text : List ℕ) (elements : List ElementValue) (comments : List Tree) : Type 0 where
  pub tokens : List TokenValue
  pub has_tokens : HasMailTokens text tokens
  pub are_elements : AreDivided SaysPlace tokens elements
  pub have_trees : HaveTrees text (comment_tokens (tokens_from 0 tokens)) comments
