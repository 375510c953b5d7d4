-- Commands (RFC 3501, 6, 6.3.11, 6.4 and 9; RFC 5161, 3.1; RFC 6855, 3 and 4). The mode says whether UTF8=ACCEPT is enabled.
use Rattle.std.specs.Prelude.{◌≡◌, ℕ, Bool, true, false, List, [], ◌∷◌, ◌==◌, codes, Option, None, Some}
use Rattle.mail_wire.specs.Lines.{first_line}
use Rattle.imap_words.specs.Languages.{Then, After, Or, Is, IsCounted, IsList, Maybe}
use Rattle.imap_words.specs.Tokens.{IsSpace, IsOpenParenthesis, IsCloseParenthesis, IsCrlf, IsImapAtom, IsTag}
use Rattle.imap_words.specs.Keywords.{Named, IsWordOf}
use Rattle.imap_words.specs.Strings.{IsAstring, IsMailboxName, IsListMailbox, IsHeader, IsHeader8}
use Rattle.imap_words.specs.Sets.{IsSetAndSpace}
use Rattle.imap_grammar.specs.Flags.{IsFlagList, IsFlagsToEnd, HasFlags, flags_of, storing_words}
use Rattle.imap_words.specs.Dates.{IsDateTime}
use Rattle.imap_grammar.specs.Fetching.{IsFetchItems}
use Rattle.imap_grammar.specs.declared.command.Command.{Command}
use Rattle.imap_grammar.specs.declared.command.Command.TheVariants as command
use Rattle.imap_grammar.specs.declared.command.StatusItem.{StatusItem}
use Rattle.imap_grammar.specs.declared.command.StatusItem.TheVariants as status
use Rattle.imap_grammar.specs.declared.words.Name.{Name}
use Rattle.imap_grammar.specs.declared.words.Name.TheVariants as name
use Rattle.imap_grammar.specs.declared.words.UidName.{UidName}
use Rattle.imap_grammar.specs.declared.words.UidName.TheVariants as uid

-- a command without arguments
abbrev pub IsBareCommand : Command → List ℕ → Command → Type 0
IsBareCommand c = After IsCrlf (Is c)

-- login = "LOGIN" SP userid SP password; userid = astring; password = astring
abbrev pub IsLoginCommand : Bool → List ℕ → Command → Type 0
IsLoginCommand utf8 =
    After IsSpace (Then (IsAstring utf8) (λ name. After IsSpace (Then (IsAstring utf8) (λ password. IsBareCommand (command.Login name password)))))

-- atoms with a space between any two, and the end of the line
abbrev pub IsAtoms : List ℕ → List (List ℕ) → Type 0
IsAtoms = IsList IsSpace IsImapAtom IsCrlf

-- enable = "ENABLE" 1*(SP capability) (RFC 5161, 4); a capability is an atom
abbrev pub IsEnable : List ℕ → Command → Type 0
IsEnable = After IsSpace (Then IsAtoms (λ words. Is (command.Enable words)))

-- select = "SELECT" SP mailbox; examine = "EXAMINE" SP mailbox; create = "CREATE" SP mailbox
abbrev pub IsNaming : Bool → (List ℕ → Command) → List ℕ → Command → Type 0
IsNaming utf8 made = After IsSpace (Then (IsMailboxName utf8) (λ mailbox. IsBareCommand (made mailbox)))

-- list = "LIST" SP mailbox SP list-mailbox
abbrev pub IsListing : Bool → List ℕ → Command → Type 0
IsListing utf8 =
    After IsSpace (Then (IsMailboxName utf8) (λ reference. After IsSpace (Then (IsListMailbox utf8) (λ pattern. IsBareCommand (command.List reference pattern)))))

-- status-att = "MESSAGES" / "RECENT" / "UIDNEXT" / "UIDVALIDITY" / "UNSEEN"
abbrev pub status_words : List (Named StatusItem)
status_words =
    record { word = codes "MESSAGES"; says = status.Messages } ∷ record { word = codes "RECENT"; says = status.Recent } ∷ record { word = codes "UIDNEXT"; says = status.UidNext }
    ∷ record { word = codes "UIDVALIDITY"; says = status.UidValidity } ∷ record { word = codes "UNSEEN"; says = status.Unseen } ∷ []

-- "(" status-att *(SP status-att) ")"
abbrev pub IsStatusItems : List ℕ → List StatusItem → Type 0
IsStatusItems = After IsOpenParenthesis (IsList IsSpace (IsWordOf status_words) IsCloseParenthesis)

-- status = "STATUS" SP mailbox SP "(" status-att *(SP status-att) ")"
abbrev pub IsStatus : Bool → List ℕ → Command → Type 0
IsStatus utf8 = After IsSpace (Then (IsMailboxName utf8) (λ mailbox. After IsSpace (Then IsStatusItems (λ items. IsBareCommand (command.Status mailbox items)))))

-- ---- APPEND

-- what stands before the data: their form and their size
pub record Announced : Type 0 where
  pub utf8 : Bool
  pub size : ℕ

-- the front of `literal`, or of `"UTF8" SP "(" literal8 ")"` (RFC 6855, 4)
abbrev pub utf8_words : List (Named Bool)
utf8_words = record { word = codes "UTF8"; says = true } ∷ []

-- The header of APPEND's literal, by itself or in `UTF8 (` (RFC 3501, 6.3.11; RFC 6855, 4).
abbrev pub IsDataFront : List ℕ → Announced → Type 0
IsDataFront =
    Or (Then IsHeader (λ size. Is (record { utf8 = false; size = size })))
    (After (IsWordOf utf8_words) (After IsSpace (After IsOpenParenthesis (Then IsHeader8 (λ size. Is (record { utf8 = true; size = size }))))))

-- The octet is this one.
abbrev pub at_octet : ℕ → ℕ → Bool
at_octet x y = y == x

-- flags and the space after them, or neither; a bit for each flag
abbrev pub IsFlagBits : List ℕ → ℕ → Type 0
IsFlagBits = Or (Is 0) (Then (HasFlags IsFlagList) (λ flags. After IsSpace (Is flags)))

-- a date and the space after it, or neither
abbrev pub IsDateAndSpace : List ℕ → Option (List ℕ) → Type 0
IsDateAndSpace = Or (Is None) (Then IsDateTime (λ date. After IsSpace (Is (Some date))))

-- what follows the data
abbrev pub IsDataEnd : Bool → List ℕ → ℕ → Type 0
IsDataEnd false = IsCrlf
IsDataEnd true = After IsCloseParenthesis IsCrlf

-- all that stands before the data
pub record AppendFront : Type 0 where
  pub mailbox : List ℕ
  pub flags : Option (List (List ℕ))
  pub date : Option (List ℕ)
  pub announced : Announced

-- The sum of the flags of a list, or 0 where none is given.
abbrev pub some_flags : Option (List (List ℕ)) → ℕ
some_flags None = 0
some_flags (Some flags) = flags_of flags

-- SP mailbox [SP flag-list] [SP date-time] SP, and the front of the data
abbrev pub IsAppendFront : Bool → List ℕ → AppendFront → Type 0
IsAppendFront utf8 =
    After IsSpace (Then (IsMailboxName utf8) (λ mailbox. Then (Maybe (After IsSpace IsFlagList)) (λ flags. Then (Maybe (After IsSpace IsDateTime)) (λ date.
    After IsSpace (Then IsDataFront (λ announced. Is (record { mailbox = mailbox; flags = flags; date = date; announced = announced })))))))

-- append = "APPEND" SP mailbox [SP flag-list] [SP date-time] SP literal; and append-data =/ "UTF8" SP "(" literal8 ")"
abbrev pub IsAppend : Bool → List ℕ → Command → Type 0
IsAppend utf8 =
    Then (IsAppendFront utf8) (λ front. Then (IsCounted front.announced.size) (λ octets. After (IsDataEnd front.announced.utf8)
    (Is (command.Append front.mailbox (some_flags front.flags) front.date front.announced.utf8 octets))))

-- ---- FETCH, STORE and UID

-- fetch = "FETCH" SP sequence-set SP ("ALL" / "FULL" / "FAST" / fetch-att / "(" fetch-att *(SP fetch-att) ")")
abbrev pub IsFetch : (utf8 by_uid : Bool) → List ℕ → Command → Type 0
IsFetch utf8 by_uid = After IsSpace (Then IsSetAndSpace (λ set. Then (IsFetchItems utf8) (λ items. IsBareCommand (command.Fetch by_uid (record { ranges = set }) items))))

-- store = "STORE" SP sequence-set SP store-att-flags
-- store-att-flags = (["+" / "-"] "FLAGS" [".SILENT"]) SP (flag-list / (flag *(SP flag)))
abbrev pub IsStore : (by_uid : Bool) → List ℕ → Command → Type 0
IsStore by_uid =
    After IsSpace (Then IsSetAndSpace (λ set. Then (IsWordOf storing_words) (λ storing. After IsSpace (Then IsFlagsToEnd (λ flags.
    Is (command.Store by_uid (record { ranges = set }) storing.0 storing.1 (flags_of flags)))))))

-- whatever follows up to the line's end
abbrev pub IsNotHere : List ℕ → Command → Type 0
IsNotHere octets value = (first_line octets ≡ Some (record { line = octets; rest = [] })) × (value ≡ command.NotHere)

-- uid = "UID" SP (copy / fetch / search / store)
abbrev pub uid_names : List (Named UidName)
uid_names =
    record { word = codes "FETCH"; says = uid.Fetch } ∷ record { word = codes "STORE"; says = uid.Store } ∷ record { word = codes "COPY"; says = uid.NotHere }
    ∷ record { word = codes "SEARCH"; says = uid.NotHere } ∷ []

-- What follows the word after UID: a FETCH or a STORE by unique identifiers, or a command that isn't here (RFC 3501, 6.4.8).
abbrev pub IsAfterUid : Bool → UidName → List ℕ → Command → Type 0
IsAfterUid utf8 uid.Fetch = IsFetch utf8 true
IsAfterUid utf8 uid.Store = IsStore true
IsAfterUid utf8 uid.NotHere = IsNotHere

-- What follows UID: a space, FETCH, STORE, COPY or SEARCH, and the words of that (RFC 3501, 6.4.8).
abbrev pub IsUid : Bool → List ℕ → Command → Type 0
IsUid utf8 = After IsSpace (Then (IsWordOf uid_names) (IsAfterUid utf8))

-- ---- all commands

-- command-any = "CAPABILITY" / "LOGOUT" / "NOOP" / x-command
-- command-auth = append / create / delete / examine / list / lsub / rename / select / status / subscribe / unsubscribe
-- command-nonauth = login / authenticate / "STARTTLS"
-- command-select = "CHECK" / "CLOSE" / "EXPUNGE" / copy / fetch / store / uid / search
-- There is no x-command, and no STARTTLS.
abbrev pub command_names : List (Named Name)
command_names =
    record { word = codes "CAPABILITY"; says = name.Capability } ∷ record { word = codes "NOOP"; says = name.Noop } ∷ record { word = codes "CHECK"; says = name.Check }
    ∷ record { word = codes "LOGOUT"; says = name.Logout } ∷ record { word = codes "LOGIN"; says = name.Login } ∷ record { word = codes "ENABLE"; says = name.Enable }
    ∷ record { word = codes "SELECT"; says = name.Select } ∷ record { word = codes "EXAMINE"; says = name.Examine } ∷ record { word = codes "CREATE"; says = name.Create }
    ∷ record { word = codes "LIST"; says = name.List } ∷ record { word = codes "STATUS"; says = name.Status } ∷ record { word = codes "APPEND"; says = name.Append }
    ∷ record { word = codes "FETCH"; says = name.Fetch } ∷ record { word = codes "STORE"; says = name.Store } ∷ record { word = codes "UID"; says = name.Uid }
    ∷ record { word = codes "EXPUNGE"; says = name.Expunge } ∷ record { word = codes "CLOSE"; says = name.Close }
    ∷ record { word = codes "AUTHENTICATE"; says = name.NotHere } ∷ record { word = codes "DELETE"; says = name.NotHere } ∷ record { word = codes "RENAME"; says = name.NotHere }
    ∷ record { word = codes "COPY"; says = name.NotHere } ∷ record { word = codes "SUBSCRIBE"; says = name.NotHere } ∷ record { word = codes "UNSUBSCRIBE"; says = name.NotHere }
    ∷ record { word = codes "LSUB"; says = name.NotHere } ∷ record { word = codes "SEARCH"; says = name.NotHere } ∷ []

-- what follows a command's name, to the CRLF that ends it
abbrev pub IsAfterName : Bool → Name → List ℕ → Command → Type 0
IsAfterName utf8 name.Capability = IsBareCommand command.Capability
IsAfterName utf8 name.Noop = IsBareCommand command.Noop
IsAfterName utf8 name.Check = IsBareCommand command.Check
IsAfterName utf8 name.Logout = IsBareCommand command.Logout
IsAfterName utf8 name.Login = IsLoginCommand utf8
IsAfterName utf8 name.Enable = IsEnable
IsAfterName utf8 name.Select = IsNaming utf8 command.Select
IsAfterName utf8 name.Examine = IsNaming utf8 command.Examine
IsAfterName utf8 name.Create = IsNaming utf8 command.Create
IsAfterName utf8 name.List = IsListing utf8
IsAfterName utf8 name.Status = IsStatus utf8
IsAfterName utf8 name.Append = IsAppend utf8
IsAfterName utf8 name.Fetch = IsFetch utf8 false
IsAfterName utf8 name.Store = IsStore false
IsAfterName utf8 name.Uid = IsUid utf8
IsAfterName utf8 name.Expunge = IsBareCommand command.Expunge
IsAfterName utf8 name.Close = IsBareCommand command.Close
IsAfterName utf8 name.NotHere = IsNotHere

-- a command with its tag
pub record Tagged : Type 0 where
  pub tag : List ℕ
  pub command : Command

-- command = tag SP (command-any / command-auth / command-nonauth / command-select) CRLF
abbrev pub IsCommand : Bool → List ℕ → Tagged → Type 0
IsCommand utf8 = Then IsTag (λ tag. After IsSpace (Then (IsWordOf command_names) (λ n. Then (IsAfterName utf8 n) (λ c. Is (record { tag = tag; command = c })))))
