-- How the writer of lists goes on.
use Rattle.std.specs.Prelude.{◌≡◌, ℕ, Bool, not, ◌&&◌, ◌||◌, List, [], ◌∷◌, ◌++◌, IsUtf8, true, false, if◌then◌else◌}
use Rattle.std.specs.List.{AllByRecursion, list_all, list_any}
use Rattle.mail_wire.specs.Octets.{is_ascii}
use Rattle.encoded_words.specs.Words.{UnitValue, IsEncodedWord}
use Rattle.encoded_words.specs.PhraseUnits.{IsUtf8Item}
use Rattle.encoded_words.specs.Written.{AreWritable}
use Rattle.field_tokens.specs.declared.TokenKind.TheVariants.{Atom}
use Rattle.field_tokens.specs.Tokens.{TokenValue}
use Rattle.field_tokens.specs.Squeezed.{is_gap, octets_of, comments_of}
use Rattle.field_tokens.specs.Comments.{AreWritableComments, CommentsPieces}
use Rattle.address_grammar.specs.private.Lexemes.{is_special_of, is_blank_token, are_blank, content}
use Rattle.address_grammar.specs.Addresses.{address_text}
use Rattle.address_grammar.specs.Phrases.{phrase_items}
use Rattle.address_grammar.specs.Paths.{in_angles}
use Rattle.address_lists.specs.PhrasePieces.{PhrasePieces, HasCore}
use Rattle.address_grammar.specs.AddressLists.{MailboxValue, IsMailbox, IsOneMailbox, AreMembers, IsGroupBy, IsGroup, ElementValue, IsElement, AreDivided, SaysPlace}
use Rattle.address_lists.specs.ListPieces.{has_served_address, HasText, with_comma, MemberPieces, MembersPieces, ElementPieces, PlaceOfListPieces, PlacesPieces}

-- ---- what can be written

abbrev pub SaysUtf8 : TokenValue → Type 0
SaysUtf8 t = IsUtf8 (content t)

-- what stands in a text can be written
pub record CanBeWritten (tokens : List TokenValue) : Type 0 where
  pub items : AllByRecursion IsUtf8Item (phrase_items tokens)
  pub comments : AreWritableComments (comments_of tokens)
  pub says : AllByRecursion SaysUtf8 tokens

-- a mailbox of UTF-8
pub record IsWritableMailbox (m : MailboxValue) : Type 0 where
  pub display : AreWritable m.display
  pub text : IsUtf8 (address_text m.address)
  pub domain : IsUtf8 m.address.domain

abbrev pub AreWritableMailboxes : List MailboxValue → Type 0
AreWritableMailboxes ms = AllByRecursion IsWritableMailbox ms

-- the tokens are one atom, which is no encoded word
pub record IsPlainWord (tokens : List TokenValue) (word : List ℕ) : Type 0 where
  pub one : tokens ≡ record { kind = Atom; octets = word } ∷ []
  pub plain : (unit : UnitValue) → ¬ IsEncodedWord word unit

-- ---- pieces

-- one piece, without the gaps at both ends
abbrev pub AsciiPieces : List TokenValue → List (List ℕ) → Type 0
AsciiPieces tokens pieces = (text : List TokenValue) × HasText tokens text × (pieces ≡ octets_of text ∷ [])

-- the pieces of a phrase, an address in angle brackets, and then the other comments
pub record NamedPieces (before following : List TokenValue) (address : List ℕ) (pieces : List (List ℕ)) : Type 0 where
  pub core : List TokenValue
  pub trail : List TokenValue
  pub has_core : HasCore before core trail
  pub first : List (List ℕ)
  pub comments : List (List ℕ)
  pub phrase : PhrasePieces (list_all is_ascii (octets_of core)) core first
  pub comments_are : CommentsPieces (comments_of (trail ++ following)) comments
  pub pieces_are : pieces ≡ first ++ in_angles address ∷ comments

abbrev pub EndsNoGap : List TokenValue → Type 0
EndsNoGap [] = Unit {0}
EndsNoGap (t ∷ []) = is_gap t.kind ≡ false
EndsNoGap (t ∷ next ∷ tokens) = EndsNoGap (next ∷ tokens)

-- front goes to the last token that is no gap
pub record SplitsGaps (tokens front : List TokenValue) : Type 0 where
  pub trail : List TokenValue
  pub whole : tokens ≡ front ++ trail
  pub ends : EndsNoGap front
  pub gaps : list_all (λ t. is_gap t.kind) trail ≡ true

-- a token of an element, which no empty place has
abbrev pub is_element_token : TokenValue → Bool
is_element_token t = not (is_blank_token t || is_special_of 44 t)

-- ---- whether addresses can be served

-- the tokens are a mailbox, and whether its address can be served
abbrev pub TellsServed : List TokenValue → Bool → Type 0
TellsServed tokens is = (m : MailboxValue) × IsMailbox tokens m × (is ≡ has_served_address m)

-- the tokens are mailboxes divided by commas, and whether all their addresses can be served
pub record AreServed (tokens : List TokenValue) (are : Bool) : Type 0 where
  pub members : List MailboxValue
  pub are_members : AreDivided IsOneMailbox tokens members
  pub served : are ≡ list_all has_served_address members

pub record AreServedMembers (tokens : List TokenValue) (are : Bool) : Type 0 where
  pub members : List MailboxValue
  pub are_members : AreMembers tokens members
  pub served : are ≡ list_all has_served_address members

-- the same of a group by its name and what stands after its colon
pub record IsServedGroupBy (before following : List TokenValue) (is : Bool) : Type 0 where
  pub name : List UnitValue
  pub members : List MailboxValue
  pub group : IsGroupBy before following name members
  pub served : is ≡ list_all has_served_address members

pub record IsServedGroup (tokens : List TokenValue) (is : Bool) : Type 0 where
  pub name : List UnitValue
  pub members : List MailboxValue
  pub group : IsGroup tokens name members
  pub served : is ≡ list_all has_served_address members

-- ---- what is known to be read

-- the tokens are a mailbox
abbrev pub IsSomeMailbox : List TokenValue → Type 0
IsSomeMailbox tokens = (m : MailboxValue) × IsMailbox tokens m

-- the tokens are mailboxes divided by commas
abbrev pub AreSomeMailboxes : List TokenValue → Type 0
AreSomeMailboxes tokens = (ms : List MailboxValue) × AreDivided IsOneMailbox tokens ms

-- the tokens are the members of a group
abbrev pub AreSomeMembers : List TokenValue → Type 0
AreSomeMembers tokens = (ms : List MailboxValue) × AreMembers tokens ms

-- ---- what was written

-- the tokens are a member, with these pieces
pub record GivesMember (tokens : List TokenValue) (pieces : List (List ℕ)) : Type 0 where
  pub member : MailboxValue
  pub says : IsMailbox tokens member
  pub gives : MemberPieces (list_all is_ascii (octets_of tokens)) tokens pieces

-- the tokens are members, with these pieces
pub record GivesMembers (tokens : List TokenValue) (pieces : List (List ℕ)) : Type 0 where
  pub members : List MailboxValue
  pub are_members : AreDivided IsOneMailbox tokens members
  pub pieces_are : MembersPieces are_members.parts pieces

-- the tokens are an element, with these pieces
pub record GivesElement (tokens : List TokenValue) (pieces : List (List ℕ)) : Type 0 where
  pub element : ElementValue
  pub is_element : IsElement tokens element
  pub gives : ElementPieces (list_all is_ascii (octets_of tokens)) tokens pieces

-- the tokens are a place, with these pieces
pub record GivesPlace (tokens : List TokenValue) (pieces : List (List ℕ)) : Type 0 where
  pub elements : List ElementValue
  pub says : SaysPlace tokens elements
  pub gives : PlaceOfListPieces (are_blank tokens) tokens pieces

-- and after it stand these tokens
pub record GivesFollowed (place following : List TokenValue) (pieces : List (List ℕ)) : Type 0 where
  pub elements : List ElementValue
  pub says : SaysPlace place elements
  pub first : List (List ℕ)
  pub gives : PlaceOfListPieces (are_blank place) place first
  pub pieces_are : pieces ≡ (if not (are_blank place) && list_any is_element_token following then with_comma first else first)

-- the tokens are a list, with these pieces
pub record GivesPlaces (tokens : List TokenValue) (pieces : List (List ℕ)) : Type 0 where
  pub elements : List ElementValue
  pub are_elements : AreDivided SaysPlace tokens elements
  pub pieces_are : PlacesPieces are_elements.parts pieces
