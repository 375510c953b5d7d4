-- What the pieces of a list of addresses read as (RFC 6857, 3.2).
use Rattle.std.specs.Prelude.{◌≡◌, ℕ, ◌<◌, Bool, true, false, List, [], length, Some}
use Rattle.std.specs.List.{AllByRecursion, AllZip, list_all, join_with_byte}
use Rattle.mail_wire.specs.Characters.{space}
use Rattle.mail_wire.specs.Octets.{is_white}
use Rattle.mail_wire.specs.Spans.{Stops, StopsAfter}
use Rattle.encoded_words.specs.Words.{UnitValue}
use Rattle.field_tokens.specs.Comments.{CommentValue, IsLinePiece}
use Rattle.address_grammar.specs.AddressLists.{MailboxValue, ElementValue, One, Group}
use Rattle.address_lists.specs.ListPieces.{served_address, has_served_address, mailbox_units, group_units, SaysAddresses}

-- The mailbox that is read back is the same, with its address as it is served.
pub record IsServedMailbox (m made : MailboxValue) : Type 0 where
  pub phrase : made.phrase ≡ m.phrase
  pub display : made.display ≡ m.display
  pub angle : made.angle ≡ m.angle
  pub address : served_address m.address ≡ Some made.address

-- What is read back for a mailbox, by whether its address can be served: it, or a group without members.
abbrev pub StandsForMailboxIf : Bool → MailboxValue → ElementValue → Type 0
StandsForMailboxIf true m (One made) = IsServedMailbox m made
StandsForMailboxIf true m (Group name members) = ⊥
StandsForMailboxIf false m made = made ≡ Group (mailbox_units m) []

-- What is read back for a mailbox: the same where its address can be served, and else a group without members (RFC 6857, 3.2).
abbrev pub StandsForMailbox : MailboxValue → ElementValue → Type 0
StandsForMailbox m made = StandsForMailboxIf (has_served_address m) m made

-- What is read back for a group, by whether all its addresses can be served: it with its members, or a group without members.
abbrev pub StandsForGroupIf : Bool → List UnitValue → List MailboxValue → ElementValue → Type 0
StandsForGroupIf true name members (One made) = ⊥
StandsForGroupIf true name members (Group same made) = (same ≡ name) × AllZip IsServedMailbox members made
StandsForGroupIf false name members made = made ≡ Group (group_units name members) []

-- What is read back for an element: for a mailbox, it or a group without members; for a group, it or one without members.
abbrev pub StandsForElement : ElementValue → ElementValue → Type 0
StandsForElement (One m) made = StandsForMailbox m made
StandsForElement (Group name members) made = StandsForGroupIf (list_all has_served_address members) name members made

-- The pieces, with a space between any two, are a list of what stands for these elements, with these comments.
pub record AreAddressesAgain (elements : List ElementValue) (comments : List CommentValue) (pieces : List (List ℕ)) : Type 0 where
  pub made : List ElementValue
  pub each : AllZip StandsForElement elements made
  pub says : SaysAddresses (join_with_byte space pieces) made comments
  pub begins : Stops is_white (join_with_byte space pieces)
  pub ends : StopsAfter is_white (join_with_byte space pieces)
  pub some : 0 < length pieces
  pub are_pieces : AllByRecursion IsLinePiece pieces
