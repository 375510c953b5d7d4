-- What is left of a command after a literal (RFC 3501, 9).
use Rattle.std.specs.Prelude.{◌≡◌, ℕ, ◌<◌, Bool, true, false, List, [], ◌∷◌, ◌++◌, Option, ⊤}
use Rattle.mail_wire.specs.Characters.{right_bracket}
use Rattle.imap_words.specs.Languages.{Then, After, Is, IsOctet, IsCounted, IsMoreThan, Maybe}
use Rattle.imap_words.specs.Tokens.{IsSpace, IsCloseParenthesis, IsRunOf, is_name_char}
use Rattle.imap_words.specs.Strings.{IsAstring, IsListMailbox, IsHeaderName, IsHeader}
use Rattle.imap_grammar.specs.Flags.{IsFlagList}
use Rattle.imap_words.specs.Dates.{IsDateTime}
use Rattle.imap_grammar.specs.Fetching.{IsFetchAtt, IsPartial}
use Rattle.imap_grammar.specs.Commands.{Announced, IsBareCommand, IsDataEnd, IsDataFront, IsStatusItems, some_flags}
use Rattle.imap_words.specs.Reading.{Reads, never}
use Rattle.imap_words.specs.Going.{Leaves}
use Rattle.imap_grammar.specs.declared.command.Command.{Command}
use Rattle.imap_grammar.specs.declared.command.Command.TheVariants as command
use Rattle.imap_grammar.specs.declared.command.FetchItem.{FetchItem}
use Rattle.imap_grammar.specs.declared.command.FetchItem.TheVariants as item
use Rattle.imap_grammar.specs.declared.command.SectionPart.TheVariants as part
use Rattle.imap_grammar.specs.declared.awaited.Naming.{Naming}
use Rattle.imap_grammar.specs.declared.awaited.Naming.TheVariants as naming
use Rattle.imap_grammar.specs.declared.awaited.FieldNames.{FieldNames}
use Rattle.imap_grammar.specs.declared.awaited.Awaited.{Awaited}
use Rattle.imap_grammar.specs.declared.awaited.Awaited.TheVariants as awaited
use Rattle.imap_grammar.specs.declared.awaited.Next.{Next}
use Rattle.imap_grammar.specs.declared.awaited.Next.TheVariants.{Whole, Awaits}

-- The command of a word with the mailbox that it names.
abbrev pub named : Naming → List ℕ → Command
named naming.Select = command.Select
named naming.Examine = command.Examine
named naming.Create = command.Create

-- What follows the name of LOGIN (RFC 3501, 6.2.3).
abbrev pub IsAfterUser : Bool → List ℕ → List ℕ → Command → Type 0
IsAfterUser utf8 name = After IsSpace (Then (IsAstring utf8) (λ password. IsBareCommand (command.Login name password)))

-- What follows the reference of LIST (RFC 3501, 6.3.8).
abbrev pub IsAfterReference : Bool → List ℕ → List ℕ → Command → Type 0
IsAfterReference utf8 reference = After IsSpace (Then (IsListMailbox utf8) (λ pattern. IsBareCommand (command.List reference pattern)))

-- What follows the mailbox of STATUS (RFC 3501, 6.3.10).
abbrev pub IsAfterStatusName : List ℕ → List ℕ → Command → Type 0
IsAfterStatusName mailbox = After IsSpace (Then IsStatusItems (λ items. IsBareCommand (command.Status mailbox items)))

-- What follows the data of APPEND (RFC 3501, 6.3.11; RFC 6855, 4).
abbrev pub IsAfterData : List ℕ → ℕ → Option (List ℕ) → Bool → List ℕ → List ℕ → Command → Type 0
IsAfterData mailbox flags date in_utf8 octets = After (IsDataEnd in_utf8) (Is (command.Append mailbox flags date in_utf8 octets))

-- What follows the mailbox of APPEND (RFC 3501, 6.3.11).
abbrev pub IsAfterAppendName : List ℕ → List ℕ → Command → Type 0
IsAfterAppendName mailbox =
    Then (Maybe (After IsSpace IsFlagList)) (λ flags. Then (Maybe (After IsSpace IsDateTime)) (λ date. After IsSpace (Then IsDataFront (λ announced.
    Then (IsCounted announced.size) (IsAfterData mailbox (some_flags flags) date announced.utf8)))))

-- What follows an item of FETCH, which is put last: more of them, or the end (RFC 3501, 6.4.5).
abbrev pub IsAfterItems : (listed : Bool) → Bool → Bool → List (Option ℕ × Option ℕ) → List FetchItem → List ℕ → Command → Type 0
IsAfterItems true utf8 by_uid set items = Then (IsMoreThan IsSpace (IsFetchAtt utf8) IsCloseParenthesis items) (λ all. IsBareCommand (command.Fetch by_uid (record { ranges = set }) all))
IsAfterItems false utf8 by_uid set items = IsBareCommand (command.Fetch by_uid (record { ranges = set }) items)

-- What follows a name of a field, which is put last: more names, then the section's end and what follows the item (RFC 3501, 6.4.5).
abbrev pub IsAfterNames : Bool → FieldNames → List (List ℕ) → List ℕ → Command → Type 0
IsAfterNames utf8 so_far names =
    Then (IsMoreThan IsSpace (IsHeaderName utf8) IsCloseParenthesis names) (λ all. After (IsOctet right_bracket) (Then (Maybe IsPartial) (λ partial.
    IsAfterItems so_far.fetching.listed utf8 so_far.fetching.uid so_far.fetching.set.ranges (so_far.fetching.items ++ item.Section so_far.peek so_far.path (part.Fields all so_far.negated) partial ∷ []))))

-- which octets the literal may have
abbrev pub IsLiteralBody : ℕ → Awaited → List ℕ → List ℕ → Type 0
IsLiteralBody size (awaited.FieldName so_far) = λ octets value. IsCounted size octets value × IsRunOf is_name_char value value
IsLiteralBody size a = IsCounted size

-- what follows the literal
abbrev pub IsAfterLiteral : Bool → Awaited → List ℕ → List ℕ → Command → Type 0
IsAfterLiteral utf8 awaited.LoginName v = IsAfterUser utf8 v
IsAfterLiteral utf8 (awaited.LoginPassword name) v = IsBareCommand (command.Login name v)
IsAfterLiteral utf8 (awaited.Mailbox n) v = IsBareCommand (named n v)
IsAfterLiteral utf8 awaited.ListReference v = IsAfterReference utf8 v
IsAfterLiteral utf8 (awaited.ListPattern reference) v = IsBareCommand (command.List reference v)
IsAfterLiteral utf8 awaited.StatusName v = IsAfterStatusName v
IsAfterLiteral utf8 awaited.AppendName v = IsAfterAppendName v
IsAfterLiteral utf8 (awaited.AppendData mailbox flags date in_utf8) v = IsAfterData mailbox flags date in_utf8 v
IsAfterLiteral utf8 (awaited.FieldName so_far) v = IsAfterNames utf8 so_far (so_far.names ++ v ∷ [])

-- what is left of the command where a literal is awaited
abbrev pub IsRestAtLiteral : Bool → ℕ → Awaited → List ℕ → Command → Type 0
IsRestAtLiteral utf8 size a = Then (IsLiteralBody size a) (IsAfterLiteral utf8 a)

-- the header of a literal of this size stands before the rest
pub record IsAfterHeader (text : List ℕ) (size : ℕ) (rest : List ℕ) : Type 0 where
  pub front : List ℕ
  pub header : List ℕ
  pub whole : text ≡ front ++ (header ++ rest)
  pub is_header : IsHeader header size

-- A field's name has an octet.
abbrev pub IsSized : ℕ → Awaited → Type 0
IsSized size (awaited.FieldName so_far) = 0 < size
IsSized size a = ⊤

-- The text is a word, or it is read up to a literal's octets.
abbrev pub Comes : Bool → (List ℕ → Command → Type 0) → List ℕ → Next → List ℕ → Type 0
Comes utf8 L text (Whole c) rest = Reads L never text c rest
Comes utf8 L text (Awaits size a) rest = IsAfterHeader text size rest × IsSized size a × Leaves L text (IsRestAtLiteral utf8 size a) rest

-- The literal that was announced: whether it comes in UTF8, and its size.
abbrev pub announced_of : Bool × ℕ → Announced
announced_of front = record { utf8 = front.0; size = front.1 }
