-- How lists are read.
use Rattle.std.specs.Prelude.{◌≡◌, ℕ, true, List, [], ◌∷◌, ◌++◌}
use Rattle.field_tokens.specs.declared.Comment.{Comment}
use Rattle.field_tokens.specs.declared.Token.{Token}
use Rattle.field_tokens.specs.Tokens.{TokenValue}
use Rattle.field_tokens.specs.Trees.{Tree}
use Rattle.address_grammar.specs.declared.AddressList.{AddressList}
use Rattle.address_grammar.specs.declared.Mailbox.{Mailbox}
use Rattle.address_grammar.specs.declared.Element.{Element}
use Rattle.address_grammar.specs.private.Lexemes.{lacks_special, SplitsAt}
use Rattle.address_grammar.specs.AddressLists.{MailboxValue, IsOneMailbox, IsMailbox, ElementValue, One, Group, IsGroupBy, SaysPlace, comment_tokens, HaveTrees}
use Rattle.address_grammar.specs.private.ListViews.{mailbox_values, element_values, trees_of}

pub record AddsMailbox (tokens : List TokenValue) (old new : List Mailbox) : Type 0 where
  pub first : List MailboxValue
  pub says : IsOneMailbox tokens first
  pub added : mailbox_values new ≡ mailbox_values old ++ first

pub record AddsPlace (tokens : List TokenValue) (old new : List Element) : Type 0 where
  pub first : List ElementValue
  pub says : SaysPlace tokens first
  pub added : element_values new ≡ element_values old ++ first

-- a comment adds its tree, and another token nothing
pub record AddsTree (text : List ℕ) (token : Token) (old new : List Comment) : Type 0 where
  pub first : List Tree
  pub have : HaveTrees text (comment_tokens (token ∷ [])) first
  pub added : trees_of new ≡ trees_of old ++ first

-- a group's name and what stands after its colon: no angle bracket opens in the name
pub record SplitsName (tokens before following : List TokenValue) : Type 0 where
  pub splits : SplitsAt 58 tokens before following
  pub closed : lacks_special 60 before ≡ true

abbrev pub SaysGroup : List TokenValue → List TokenValue → ElementValue → Type 0
SaysGroup before following (One m) = ⊥
SaysGroup before following (Group name members) = IsGroupBy before following name members

abbrev pub SaysSingle : List TokenValue → ElementValue → Type 0
SaysSingle tokens (One m) = IsMailbox tokens m
SaysSingle tokens (Group name members) = ⊥

-- a list of these elements and comments
pub record IsListOf (elements : List ElementValue) (comments : List Tree) (list : AddressList) : Type 0 where
  pub elements_are : element_values list.elements ≡ elements
  pub comments_are : trees_of list.comments.items ≡ comments
