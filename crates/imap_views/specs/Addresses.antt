-- The addresses of an envelope (RFC 3501, 7.4.2), over the lists of RFC 5322, 3.4.
use Rattle.std.specs.Prelude.{◌≡◌, ℕ, ◌⊎◌, Bool, true, false, List, [], ◌∷◌, ◌++◌, map, Option, Some, None}
use Rattle.std.specs.List.{flat_map}
use Rattle.mail_wire.specs.Characters.{colon, semicolon, less_than}
use Rattle.encoded_words.specs.PhraseUnits.{PhraseItem, Content, Separator, PhraseWord, phrase_words}
use Rattle.field_tokens.specs.declared.TokenKind.{TokenKind}
use Rattle.field_tokens.specs.declared.TokenKind.TheVariants.{Atom, Quoted, Literal, Special, Gap, Comment}
use Rattle.field_tokens.specs.Tokens.{TokenValue}
use Rattle.address_grammar.specs.declared.Address.{Address}
use Rattle.address_grammar.specs.private.Lexemes.{HasMailTokens, SplitsAt, are_blank, said_content}
use Rattle.address_grammar.specs.Addresses.{quoted_string}
use Rattle.address_grammar.specs.AddressLists.{MailboxValue, IsMailbox, AreDivided}
use Rattle.address_grammar.specs.Phrases.{IsPhrase}
use Rattle.imap_views.specs.Strings.{nil, nstring, in_parentheses, spaced}

-- a token of a phrase, of which no atom is an encoded word: encoded words are left to who reads the envelope
abbrev pub plain_item : TokenKind → List ℕ → PhraseItem
plain_item Atom octets = Content octets
plain_item Quoted octets = Content (said_content Quoted octets)
plain_item Literal octets = Content octets
plain_item Special octets = Content octets
plain_item Gap octets = Separator
plain_item Comment octets = Separator

-- the words of a phrase as they stand, with a space where they are separated
abbrev pub plain_words : List TokenValue → List PhraseWord
plain_words tokens = phrase_words true (map (λ t. plain_item t.kind t.octets) tokens)

-- The words of a phrase as they stand, with spaces between them.
abbrev pub plain_text : List TokenValue → List ℕ
plain_text tokens = flat_map (λ (w : PhraseWord). w.octets ++ w.gap) (plain_words tokens)

-- The name of a mailbox is the phrase before its angle bracket, where there is a phrase.
abbrev pub IsPhraseName : List TokenValue → Bool → Option (List ℕ) → Type 0
IsPhraseName tokens false name = name ≡ None
IsPhraseName tokens true name =
    (phrase : List TokenValue) × (following : List TokenValue) × SplitsAt less_than tokens phrase following × (name ≡ Some (plain_text phrase))

-- (name NIL local domain)
abbrev pub address_form : Option (List ℕ) → Address → List ℕ
address_form name address = in_parentheses (spaced (nstring name ∷ nil ∷ quoted_string address.local ∷ quoted_string address.domain ∷ []))

-- the tokens are a mailbox, and this is its form
pub record IsMailboxForm (tokens : List TokenValue) (text : List ℕ) : Type 0 where
  pub mailbox : MailboxValue
  pub is_mailbox : IsMailbox tokens mailbox
  pub name : Option (List ℕ)
  pub is_name : IsPhraseName tokens mailbox.phrase name
  pub text_is : text ≡ address_form name mailbox.address

-- the forms of a group's members, one after another
abbrev pub AreMemberForms : List TokenValue → List ℕ → Type 0
AreMemberForms tokens text = ((are_blank tokens ≡ true) × (text ≡ [])) ⊎ AreDivided IsMailboxForm tokens text

-- (NIL NIL name NIL)
abbrev pub group_start : List ℕ → List ℕ
group_start name = in_parentheses (spaced (nil ∷ nil ∷ quoted_string name ∷ nil ∷ []))

-- (NIL NIL NIL NIL)
abbrev pub group_end : List ℕ
group_end = in_parentheses (spaced (nil ∷ nil ∷ nil ∷ nil ∷ []))

-- the tokens are a group, and this is its form: its start, its members and its end
pub record IsGroupForm (tokens : List TokenValue) (text : List ℕ) : Type 0 where
  pub before : List TokenValue
  pub following : List TokenValue
  pub named : SplitsAt colon tokens before following
  pub is_phrase : IsPhrase before
  pub inner : List TokenValue
  pub after : List TokenValue
  pub ended : SplitsAt semicolon following inner after
  pub nothing_after : are_blank after ≡ true
  pub members : List ℕ
  pub are_members : AreMemberForms inner members
  pub text_is : text ≡ group_start (plain_text before) ++ (members ++ group_end)

-- a mailbox, a group, or nothing: empty places are no part of a list
abbrev pub IsPlaceForm : List TokenValue → List ℕ → Type 0
IsPlaceForm tokens text = ((are_blank tokens ≡ true) × (text ≡ [])) ⊎ IsMailboxForm tokens text ⊎ IsGroupForm tokens text

-- the text is a list of addresses, and these are their forms, one after another
pub record HasForms (text forms : List ℕ) : Type 0 where
  pub tokens : List TokenValue
  pub has_tokens : HasMailTokens text tokens
  pub are_forms : AreDivided IsPlaceForm tokens forms

-- the forms in parentheses, and NIL where there are none
abbrev pub list_form : List ℕ → List ℕ
list_form [] = nil
list_form (x ∷ forms) = in_parentheses (x ∷ forms)

-- A field of addresses with this value has this form: NIL where it is malformed.
abbrev pub IsListForm : List ℕ → List ℕ → Type 0
IsListForm value text =
    ((forms : List ℕ) × HasForms value forms × (text ≡ list_form forms))
    ⊎ (((forms : List ℕ) → ¬ HasForms value forms) × (text ≡ nil))

-- The addresses of a field in an envelope, or NIL where there is no such field (RFC 3501, 7.4.2).
abbrev pub IsAddressesForm : Option (List ℕ) → List ℕ → Type 0
IsAddressesForm None text = text ≡ nil
IsAddressesForm (Some value) text = IsListForm value text
