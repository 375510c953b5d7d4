-- How lists of addresses are written in ASCII (RFC 6857, 3.2; RFC 5891).
use Rattle.std.specs.Prelude.{◌≡◌, ◌⊎◌, ℕ, Bool, true, false, not, ◌&&◌, if◌then◌else◌, List, [], ◌∷◌, ◌++◌, Option, Some, None, is_some, codes}
use Rattle.std.specs.List.{list_all, list_any}
use Rattle.mail_wire.specs.Characters.{space, comma, colon, semicolon}
use Rattle.mail_wire.specs.Octets.{is_ascii}
use Rattle.encoded_words.specs.Words.{UnitValue, Text}
use Rattle.encoded_words.specs.Units.{merged}
use Rattle.encoded_words.specs.Written.{WriteAll}
use Rattle.ace_domains.specs.Domains.{normal_form}
use Rattle.field_tokens.specs.Tokens.{TokenValue}
use Rattle.field_tokens.specs.Squeezed.{is_gap, octets_of, comments_of}
use Rattle.field_tokens.specs.Comments.{CommentValue, CommentsSay, CommentsPieces}
use Rattle.address_grammar.specs.declared.Address.{Address}
use Rattle.address_grammar.specs.private.Lexemes.{HasMailTokens, are_blank}
use Rattle.address_grammar.specs.Addresses.{address_text}
use Rattle.address_grammar.specs.Paths.{IsAngled, in_angles}
use Rattle.address_lists.specs.PhrasePieces.{HasCore, PhrasePieces, PlacePieces}
use Rattle.address_grammar.specs.AddressLists.{AreDivided, IsOneMailbox, MailboxValue, IsBare, IsNamedBy, IsMailbox, IsGroup, ElementValue, SaysPlace}

-- ---- addresses

-- a domain as it is served: as it stands where it is ASCII, and else its normal form, if it has one
abbrev pub served_domain : List ℕ → Option (List ℕ)
served_domain domain = if list_all is_ascii domain then Some domain else normal_form domain

-- The address of this local part and this domain, if there is one.
abbrev pub with_domain : List ℕ → Option (List ℕ) → Option Address
with_domain local None = None
with_domain local (Some domain) = Some (record { local = local; domain = domain })

-- An address as it is served. One whose local part isn't ASCII, or whose domain has no form, can't be.
abbrev pub served_address : Address → Option Address
served_address a = if list_all is_ascii a.local then with_domain a.local (served_domain a.domain) else None

-- The mailbox has an address that a legacy session can be served.
abbrev pub has_served_address : MailboxValue → Bool
has_served_address m = is_some (served_address m.address)

-- ---- mailboxes and groups

-- what stands for a mailbox whose address can't be served: the units of its phrase, a space, and the text of its address
abbrev pub mailbox_units : MailboxValue → List UnitValue
mailbox_units m = merged (m.display ++ (if m.phrase then Text (space ∷ []) ∷ [] else []) ++ Text (address_text m.address) ∷ [])

-- A group's member as units of text: its display name, and its address in angle brackets; without a phrase its address alone.
abbrev pub member_units : MailboxValue → List UnitValue
member_units m = if m.phrase then m.display ++ Text (codes " <") ∷ Text (address_text m.address) ∷ Text (codes ">") ∷ [] else Text (address_text m.address) ∷ []

-- A group's members as units of text, with a comma and a space between any two.
abbrev pub members_units : List MailboxValue → List UnitValue
members_units [] = []
members_units (m ∷ []) = member_units m
members_units (m ∷ n ∷ ms) = member_units m ++ Text (codes ", ") ∷ members_units (n ∷ ms)

-- what stands for a group with such a mailbox: the units of its name, a space, and its members
abbrev pub group_units : List UnitValue → List MailboxValue → List UnitValue
group_units name members = merged (name ++ Text (space ∷ []) ∷ members_units members)

-- a group without members
abbrev pub no_members : List ℕ
no_members = codes ":;"

-- the pieces of a mailbox with an octet above 127
pub data MailboxPieces (tokens : List TokenValue) (pieces : List (List ℕ)) : Type 0 where
  -- an address by itself, and then the comments
  Bare : (m : MailboxValue) (served : Address) (comments : List (List ℕ)) → IsBare tokens m → served_address m.address ≡ Some served → CommentsPieces (comments_of tokens) comments
      → pieces ≡ address_text served ∷ comments → MailboxPieces tokens pieces
  -- an address in angle brackets without a phrase, and then the comments
  Angled : (m : MailboxValue) (served : Address) (before inner : List TokenValue) (comments : List (List ℕ)) → IsAngled tokens before inner → IsNamedBy before inner m → m.phrase ≡ false
      → served_address m.address ≡ Some served → CommentsPieces (comments_of tokens) comments → pieces ≡ in_angles (address_text served) ∷ comments → MailboxPieces tokens pieces
  -- a phrase and the comments in it, the address in angle brackets, and then the other comments
  Named : (m : MailboxValue) (served : Address) (before inner core trail : List TokenValue) (first comments : List (List ℕ)) → (angled : IsAngled tokens before inner) → IsNamedBy before inner m → m.phrase ≡ true
      → HasCore before core trail → PhrasePieces (list_all is_ascii (octets_of core)) core first → served_address m.address ≡ Some served
      → CommentsPieces (comments_of (trail ++ inner ++ angled.after)) comments → pieces ≡ first ++ in_angles (address_text served) ∷ comments → MailboxPieces tokens pieces
  -- a group without members in place of an address that can't be served, and then all comments
  Emptied : (m : MailboxValue) (words comments : List (List ℕ)) → IsMailbox tokens m → served_address m.address ≡ None → WriteAll (mailbox_units m) words → CommentsPieces (comments_of tokens) comments
      → pieces ≡ words ++ no_members ∷ comments → MailboxPieces tokens pieces

-- the tokens without gaps at both ends
pub record HasText (tokens text : List TokenValue) : Type 0 where
  pub lead : List TokenValue
  pub trail : List TokenValue
  pub lead_gaps : list_all (λ t. is_gap t.kind) lead ≡ true
  pub trail_gaps : list_all (λ t. is_gap t.kind) trail ≡ true
  pub begins : (first : TokenValue) × (others : List TokenValue) × (text ≡ first ∷ others) × (is_gap first.kind ≡ false)
  pub ends : (others : List TokenValue) × (last : TokenValue) × (text ≡ others ++ last ∷ []) × (is_gap last.kind ≡ false)
  pub whole : tokens ≡ lead ++ (text ++ trail)

-- what is ASCII is one piece, and else a mailbox is written
abbrev pub MemberPieces : Bool → List TokenValue → List (List ℕ) → Type 0
MemberPieces true tokens pieces = (text : List TokenValue) × HasText tokens text × (pieces ≡ octets_of text ∷ [])
MemberPieces false tokens pieces = MailboxPieces tokens pieces

-- a comma after the last piece
abbrev pub with_comma : List (List ℕ) → List (List ℕ)
with_comma [] = []
with_comma (p ∷ []) = (p ++ comma ∷ []) ∷ []
with_comma (p ∷ q ∷ ps) = p ∷ with_comma (q ∷ ps)

-- The pieces of a group's members, a comma after each but the last.
abbrev pub MembersPieces : List (List TokenValue) → List (List ℕ) → Type 0
MembersPieces [] pieces = ⊥
MembersPieces (p ∷ []) pieces = MemberPieces (list_all is_ascii (octets_of p)) p pieces
MembersPieces (p ∷ q ∷ ps) pieces = (first more : List (List ℕ)) × MemberPieces (list_all is_ascii (octets_of p)) p first × MembersPieces (q ∷ ps) more × (pieces ≡ with_comma first ++ more)

-- between the colon and the semicolon stand the members, or the comments where there are none
abbrev pub InnerPieces : List TokenValue → List (List ℕ) → Type 0
InnerPieces inner pieces = ((are_blank inner ≡ true) × CommentsPieces (comments_of inner) pieces)
    ⊎ ((are_blank inner ≡ false) × ((members : List MailboxValue) × (d : AreDivided IsOneMailbox inner members) × MembersPieces d.parts pieces))

-- the pieces of a group with an octet above 127
pub data GroupPieces (tokens : List TokenValue) (pieces : List (List ℕ)) : Type 0 where
  -- its name and the comments beside it, its members, and then the comments after it
  Kept : (name : List UnitValue) (members : List MailboxValue) (first inner comments : List (List ℕ)) → (g : IsGroup tokens name members) → list_all has_served_address members ≡ true
      → PlacePieces g.before first → InnerPieces g.group.inner inner → CommentsPieces (comments_of g.group.after) comments
      → pieces ≡ first ++ (colon ∷ []) ∷ (inner ++ (semicolon ∷ []) ∷ comments) → GroupPieces tokens pieces
  -- a group without members where an address of it can't be served, and then all comments
  Emptied : (name : List UnitValue) (members : List MailboxValue) (words comments : List (List ℕ)) → IsGroup tokens name members → list_all has_served_address members ≡ false
      → WriteAll (group_units name members) words → CommentsPieces (comments_of tokens) comments → pieces ≡ words ++ no_members ∷ comments → GroupPieces tokens pieces

-- ---- lists

-- the pieces of an element
abbrev pub ElementPieces : Bool → List TokenValue → List (List ℕ) → Type 0
ElementPieces true tokens pieces = (text : List TokenValue) × HasText tokens text × (pieces ≡ octets_of text ∷ [])
ElementPieces false tokens pieces = MailboxPieces tokens pieces ⊎ GroupPieces tokens pieces

-- an empty place gives its comments
abbrev pub PlaceOfListPieces : Bool → List TokenValue → List (List ℕ) → Type 0
PlaceOfListPieces true tokens pieces = CommentsPieces (comments_of tokens) pieces
PlaceOfListPieces false tokens pieces = ElementPieces (list_all is_ascii (octets_of tokens)) tokens pieces

-- a comma is put after an element that another follows
abbrev pub comma_followed : List TokenValue → List (List TokenValue) → List (List ℕ) → List (List ℕ)
comma_followed place places pieces = if not (are_blank place) && list_any (λ p. not (are_blank p)) places then with_comma pieces else pieces

-- The pieces of the places of a list, a comma after each element that another follows.
abbrev pub PlacesPieces : List (List TokenValue) → List (List ℕ) → Type 0
PlacesPieces [] pieces = pieces ≡ []
PlacesPieces (place ∷ places) pieces = (first more : List (List ℕ)) × PlaceOfListPieces (are_blank place) place first × PlacesPieces places more × (pieces ≡ comma_followed place places first ++ more)

-- the text is a list of these elements, and these are its comments
pub record SaysAddresses (text : List ℕ) (elements : List ElementValue) (comments : List CommentValue) : Type 0 where
  pub tokens : List TokenValue
  pub has : HasMailTokens text tokens
  pub are_elements : AreDivided SaysPlace tokens elements
  pub comments_say : CommentsSay (comments_of tokens) comments

-- the text is a list of addresses, with these pieces
pub record AddressesPieces (text : List ℕ) (pieces : List (List ℕ)) : Type 0 where
  pub tokens : List TokenValue
  pub has : HasMailTokens text tokens
  pub elements : List ElementValue
  pub are_elements : AreDivided SaysPlace tokens elements
  pub pieces_are : PlacesPieces are_elements.parts pieces
