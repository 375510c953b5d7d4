-- What FETCH asks (RFC 3501, 6.4.5 and 9).
use Rattle.std.specs.Prelude.{ℕ, Bool, true, false, ◌||◌, ◌==◌, List, [], ◌∷◌, ◌++◌, codes}
use Rattle.mail_wire.specs.Characters.{dot, less_than, greater_than, left_bracket, right_bracket}
use Rattle.imap_words.specs.Languages.{Then, After, Or, Is, IsOctet, IsList, Maybe}
use Rattle.imap_words.specs.Tokens.{IsNumber32, IsNonZero, IsSpace, IsOpenParenthesis, IsCloseParenthesis}
use Rattle.imap_words.specs.Keywords.{Named, IsWordOf}
use Rattle.imap_words.specs.Strings.{IsHeaderName}
use Rattle.imap_grammar.specs.declared.command.FetchItem.{FetchItem}
use Rattle.imap_grammar.specs.declared.command.FetchItem.TheVariants as item
use Rattle.imap_grammar.specs.declared.command.SectionPart.{SectionPart}
use Rattle.imap_grammar.specs.declared.command.SectionPart.TheVariants as part
use Rattle.imap_grammar.specs.declared.words.ItemWord.{ItemWord}
use Rattle.imap_grammar.specs.declared.words.ItemWord.TheVariants as word
use Rattle.imap_grammar.specs.declared.words.SectionWord.{SectionWord}
use Rattle.imap_grammar.specs.declared.words.SectionWord.TheVariants as section

-- ---- sections

-- header-list = "(" header-fld-name *(SP header-fld-name) ")"
abbrev pub IsHeaderList : Bool → List ℕ → List (List ℕ) → Type 0
IsHeaderList utf8 = After IsOpenParenthesis (IsList IsSpace (IsHeaderName utf8) IsCloseParenthesis)

-- "HEADER" / "HEADER.FIELDS" [".NOT"] / "TEXT"
abbrev pub msgtext_words : List (Named SectionWord)
msgtext_words =
    record { word = codes "HEADER"; says = section.Header } ∷ record { word = codes "HEADER.FIELDS"; says = section.Fields }
    ∷ record { word = codes "HEADER.FIELDS.NOT"; says = section.FieldsNot } ∷ record { word = codes "TEXT"; says = section.Text } ∷ []

-- section-text = section-msgtext / "MIME", after numbers alone
abbrev pub text_words : Bool → List (Named SectionWord)
text_words false = msgtext_words
text_words true = msgtext_words ++ record { word = codes "MIME"; says = section.Mime } ∷ []

-- what follows the word
abbrev pub IsAfterWord : Bool → SectionWord → List ℕ → SectionPart → Type 0
IsAfterWord utf8 section.Header = Is part.Header
IsAfterWord utf8 section.Fields = After IsSpace (Then (IsHeaderList utf8) (λ names. Is (part.Fields names false)))
IsAfterWord utf8 section.FieldsNot = After IsSpace (Then (IsHeaderList utf8) (λ names. Is (part.Fields names true)))
IsAfterWord utf8 section.Text = Is part.Text
IsAfterWord utf8 section.Mime = Is part.Mime

-- section-msgtext = "HEADER" / "HEADER.FIELDS" [".NOT"] SP header-list / "TEXT"
abbrev pub IsSectionMsgtext : Bool → List ℕ → SectionPart → Type 0
IsSectionMsgtext utf8 = Then (IsWordOf (text_words false)) (IsAfterWord utf8)

-- section-text = section-msgtext / "MIME" (RFC 3501, 9).
abbrev pub IsSectionText : Bool → List ℕ → SectionPart → Type 0
IsSectionText utf8 = Then (IsWordOf (text_words true)) (IsAfterWord utf8)

-- nothing follows
abbrev pub IsNothing : List ℕ → ℕ → Type 0
IsNothing = Is 0

-- section-part = nz-number *("." nz-number) ; body part nesting
abbrev pub IsSectionPart : List ℕ → List ℕ → Type 0
IsSectionPart = IsList (IsOctet dot) IsNonZero IsNothing

-- what a section names
pub record SectionName : Type 0 where
  pub path : List ℕ
  pub part : SectionPart

-- section-spec = section-msgtext / (section-part ["." section-text])
abbrev pub IsSectionSpec : Bool → List ℕ → SectionName → Type 0
IsSectionSpec utf8 =
    Or (Then (IsSectionMsgtext utf8) (λ p. Is (record { path = []; part = p })))
    (Then IsSectionPart (λ numbers. Or (Is (record { path = numbers; part = part.Whole })) (After (IsOctet dot) (Then (IsSectionText utf8) (λ p. Is (record { path = numbers; part = p }))))))

-- section = "[" [section-spec] "]"
abbrev pub IsSection : Bool → List ℕ → SectionName → Type 0
IsSection utf8 =
    After (IsOctet left_bracket) (Then (Or (Is (record { path = []; part = part.Whole })) (IsSectionSpec utf8)) (λ s. After (IsOctet right_bracket) (Is s)))

-- "<" number "." nz-number ">"
abbrev pub IsPartial : List ℕ → ℕ × ℕ → Type 0
IsPartial = After (IsOctet less_than) (Then IsNumber32 (λ from. After (IsOctet dot) (Then IsNonZero (λ most. After (IsOctet greater_than) (Is (from, most))))))

-- ---- items

-- "ENVELOPE" / "FLAGS" / "INTERNALDATE" / "RFC822" [".HEADER" / ".SIZE" / ".TEXT"] / "BODY" ["STRUCTURE"] / "UID" / "BODY.PEEK"
abbrev pub item_words : List (Named ItemWord)
item_words =
    record { word = codes "ENVELOPE"; says = word.Envelope } ∷ record { word = codes "FLAGS"; says = word.Flags } ∷ record { word = codes "INTERNALDATE"; says = word.InternalDate }
    ∷ record { word = codes "RFC822"; says = word.Rfc822 } ∷ record { word = codes "RFC822.HEADER"; says = word.Rfc822Header } ∷ record { word = codes "RFC822.SIZE"; says = word.Size }
    ∷ record { word = codes "RFC822.TEXT"; says = word.Rfc822Text } ∷ record { word = codes "BODY"; says = word.Body } ∷ record { word = codes "BODYSTRUCTURE"; says = word.BodyStructure }
    ∷ record { word = codes "UID"; says = word.Uid } ∷ record { word = codes "BODY.PEEK"; says = word.BodyPeek } ∷ []

-- "ALL" / "FULL" / "FAST"
abbrev pub macro_words : List (Named ItemWord)
macro_words = record { word = codes "ALL"; says = word.All } ∷ record { word = codes "FULL"; says = word.Full } ∷ record { word = codes "FAST"; says = word.Fast } ∷ []

-- section ["<" number "." nz-number ">"]
abbrev pub IsSectionItem : Bool → (peek : Bool) → List ℕ → FetchItem → Type 0
IsSectionItem utf8 peek = Then (IsSection utf8) (λ s. Then (Maybe IsPartial) (λ partial. Is (item.Section peek s.path s.part partial)))

-- what follows the word of an item
abbrev pub IsAfterItem : Bool → ItemWord → List ℕ → FetchItem → Type 0
IsAfterItem utf8 word.Flags = Is item.Flags
IsAfterItem utf8 word.Uid = Is item.Uid
IsAfterItem utf8 word.InternalDate = Is item.InternalDate
IsAfterItem utf8 word.Size = Is item.Size
IsAfterItem utf8 word.Rfc822 = Is item.Rfc822
IsAfterItem utf8 word.Rfc822Header = Is item.Rfc822Header
IsAfterItem utf8 word.Rfc822Text = Is item.Rfc822Text
IsAfterItem utf8 word.Envelope = Is item.Envelope
IsAfterItem utf8 word.BodyStructure = Is item.BodyStructure
IsAfterItem utf8 word.Body = Or (Is item.Body) (IsSectionItem utf8 false)
IsAfterItem utf8 word.BodyPeek = IsSectionItem utf8 true
IsAfterItem utf8 word.All = λ octets value. ⊥
IsAfterItem utf8 word.Fast = λ octets value. ⊥
IsAfterItem utf8 word.Full = λ octets value. ⊥

-- fetch-att = "ENVELOPE" / "FLAGS" / "INTERNALDATE" / "RFC822" [".HEADER" / ".SIZE" / ".TEXT"] / "BODY" ["STRUCTURE"] / "UID" /
--   "BODY" section ["<" number "." nz-number ">"] / "BODY.PEEK" section ["<" number "." nz-number ">"]
abbrev pub IsFetchAtt : Bool → List ℕ → FetchItem → Type 0
IsFetchAtt utf8 = Then (IsWordOf item_words) (IsAfterItem utf8)

-- what a macro stands for (RFC 3501, 6.4.5)
abbrev pub fast_items : List FetchItem
fast_items = item.Flags ∷ item.InternalDate ∷ item.Size ∷ []

-- The items that ALL, FAST or FULL stands for (RFC 3501, 6.4.5).
abbrev pub macro_items : ItemWord → List FetchItem
macro_items word.Fast = fast_items
macro_items word.All = fast_items ++ item.Envelope ∷ []
macro_items word.Full = fast_items ++ item.Envelope ∷ item.Body ∷ []
macro_items w = []

-- "ALL" / "FULL" / "FAST" / fetch-att / "(" fetch-att *(SP fetch-att) ")"
abbrev pub IsFetchItems : Bool → List ℕ → List FetchItem → Type 0
IsFetchItems utf8 =
    Or (Then (IsWordOf macro_words) (λ w. Is (macro_items w)))
    (Or (Then (IsFetchAtt utf8) (λ i. Is (i ∷ [])))
    (After IsOpenParenthesis (IsList IsSpace (IsFetchAtt utf8) IsCloseParenthesis)))

-- ---- what may go on after a word, as a longer one begins with it

-- The octet goes on to a longer item word: a dot after RFC822 and BODY, and an S after BODY (RFC 3501, 6.4.5).
abbrev pub after_item_word : ItemWord → ℕ → Bool
after_item_word word.Rfc822 x = x == dot
after_item_word word.Body x = x == dot || x == 83 || x == 115
after_item_word w x = false

-- The octet goes on to a longer section word: a dot after HEADER and HEADER.FIELDS (RFC 3501, 6.4.5).
abbrev pub after_section_word : SectionWord → ℕ → Bool
after_section_word section.Header x = x == dot
after_section_word section.Fields x = x == dot
after_section_word w x = false
