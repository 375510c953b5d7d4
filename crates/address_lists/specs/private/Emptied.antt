-- How units are written one after another, and what stands for addresses that can't be served.
use Rattle.std.specs.Prelude.{◌≡◌, ℕ, if◌then◌else◌, List, [], ◌∷◌, ◌++◌}
use Rattle.encoded_words.specs.declared.units.Merging.{Merging}
use Rattle.encoded_words.specs.Folding.{AddsLines}
use Rattle.encoded_words.specs.Words.{UnitValue, Text}
use Rattle.encoded_words.specs.private.Merging.{all_units_then, onto}
use Rattle.encoded_words.specs.PhraseUnits.{HasPhraseUnits}
use Rattle.encoded_words.specs.Written.{AreWritable, WriteAll}
use Rattle.field_tokens.specs.Tokens.{TokenValue}
use Rattle.field_tokens.specs.Squeezed.{comments_of}
use Rattle.field_tokens.specs.Comments.{CommentsPieces}
use Rattle.address_grammar.specs.declared.FoundMailbox.{FoundMailbox}
use Rattle.address_grammar.specs.Addresses.{address_text}
use Rattle.address_grammar.specs.Found.{found_value}
use Rattle.address_grammar.specs.Phrases.{phrase_items}
use Rattle.address_grammar.specs.AddressLists.{MailboxValue, IsMailbox, IsOneMailbox, AreDivided}
use Rattle.address_lists.specs.PhrasePieces.{UnitsPieces}
use Rattle.address_lists.specs.ListPieces.{mailbox_units, member_units, members_units, group_units, no_members}

-- the pieces of what a phrase says
abbrev pub GivesUnits : List TokenValue → List (List ℕ) → Type 0
GivesUnits tokens pieces = (units : List UnitValue) × HasPhraseUnits (phrase_items tokens) units × UnitsPieces units pieces

-- ---- units that are taken

-- units before units: text that touches text is one
abbrev pub all_onto : List UnitValue → List UnitValue → List UnitValue
all_onto [] us = us
all_onto (u ∷ added) us = onto u (all_onto added us)

-- these units were taken
pub record TakesUnits (old new : Merging) (added : List UnitValue) : Type 0 where
  pub units : (us : List UnitValue) → all_units_then new us ≡ all_units_then old (all_onto added us)

-- these units were taken, and the first of all were written
pub record TakesOut (old new : Merging) (before after : List ℕ) (added : List UnitValue) : Type 0 where
  pub written : List UnitValue
  pub lines : AddsLines (WriteAll written) before after
  pub units : (us : List UnitValue) → written ++ all_units_then new us ≡ all_units_then old (all_onto added us)

-- the units can be written, with whatever can be written after them
abbrev pub CanEnd : Merging → Type 0
CanEnd m = (us : List UnitValue) → AreWritable us → AreWritable (all_units_then m us)

-- the phrase of a mailbox, and a space
abbrev pub display_units : MailboxValue → List UnitValue
display_units m = m.display ++ (if m.phrase then Text (32 ∷ []) ∷ [] else [])

-- what a phrase says was taken
pub record TakesPhrase (old new : Merging) (before after : List ℕ) (tokens : List TokenValue) : Type 0 where
  pub said : List UnitValue
  pub has_units : HasPhraseUnits (phrase_items tokens) said
  pub takes : TakesOut old new before after said

-- what the phrase of a mailbox says was taken
pub record TakesDisplay (old new : Merging) (before after : List ℕ) (tokens : List TokenValue) (m : FoundMailbox) : Type 0 where
  pub display : List UnitValue
  pub is_mailbox : IsMailbox tokens (found_value m display)
  pub takes : TakesOut old new before after display

-- what stands for a mailbox whose address can't be served was taken
pub record TakesNotServed (old new : Merging) (before after : List ℕ) (tokens : List TokenValue) (m : FoundMailbox) : Type 0 where
  pub display : List UnitValue
  pub is_mailbox : IsMailbox tokens (found_value m display)
  pub takes : TakesOut old new before after (display_units (found_value m display) ++ Text (address_text m.address) ∷ [])

-- a member was taken
pub record TakesMember (old new : Merging) (before after : List ℕ) (tokens : List TokenValue) : Type 0 where
  pub member : MailboxValue
  pub is_mailbox : IsMailbox tokens member
  pub takes : TakesOut old new before after (member_units member)

-- members were taken
pub record TakesMembers (old new : Merging) (before after : List ℕ) (tokens : List TokenValue) : Type 0 where
  pub members : List MailboxValue
  pub are_members : AreDivided IsOneMailbox tokens members
  pub takes : TakesOut old new before after (members_units members)

-- ---- pieces

-- the pieces of what stands for a mailbox
pub record GivesMailboxUnits (tokens : List TokenValue) (m : FoundMailbox) (pieces : List (List ℕ)) : Type 0 where
  pub display : List UnitValue
  pub is_mailbox : IsMailbox tokens (found_value m display)
  pub write : WriteAll (mailbox_units (found_value m display)) pieces

-- the pieces of what stands for a group
pub record GivesGroupUnits (name inner : List TokenValue) (pieces : List (List ℕ)) : Type 0 where
  pub said : List UnitValue
  pub has_units : HasPhraseUnits (phrase_items name) said
  pub members : List MailboxValue
  pub are_members : AreDivided IsOneMailbox inner members
  pub write : WriteAll (group_units said members) pieces

-- a group without members, and then all comments
abbrev pub NoMembersPieces : List TokenValue → List (List ℕ) → Type 0
NoMembersPieces tokens pieces = (comments : List (List ℕ)) × CommentsPieces (comments_of tokens) comments × (pieces ≡ no_members ∷ comments)
