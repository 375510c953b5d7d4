-- Mailboxes whose phrases aren't read (RFC 5322, 3.4).
use Rattle.std.specs.Prelude.{Bool, List}
use Rattle.encoded_words.specs.Words.{UnitValue}
use Rattle.field_tokens.specs.Tokens.{TokenValue}
use Rattle.address_grammar.specs.declared.FoundMailbox.{FoundMailbox}
use Rattle.address_grammar.specs.Phrases.{SaysPhrase}
use Rattle.address_grammar.specs.AddressLists.{MailboxValue, IsNamedBy, IsMailbox}

-- the mailbox whose phrase says these units
abbrev pub found_value : FoundMailbox → List UnitValue → MailboxValue
found_value m display = record { phrase = m.phrase; display = display; angle = m.angle; address = m.address }

-- a phrase with whatever units, or none
abbrev pub SaysSomePhrase : List TokenValue → Bool → Type 0
SaysSomePhrase tokens phrase = (units : List UnitValue) × SaysPhrase tokens phrase units

-- A mailbox with this address in angle brackets, and with some display name if it has a phrase.
abbrev pub IsFoundBy : List TokenValue → List TokenValue → FoundMailbox → Type 0
IsFoundBy before inner m = (display : List UnitValue) × IsNamedBy before inner (found_value m display)

-- the tokens are this mailbox, whatever its phrase says
abbrev pub IsFoundMailbox : List TokenValue → FoundMailbox → Type 0
IsFoundMailbox tokens m = (display : List UnitValue) × IsMailbox tokens (found_value m display)
