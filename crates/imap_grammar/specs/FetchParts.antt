-- What is left of FETCH where one of its readers hands over to another (RFC 3501, 9).
use Rattle.std.specs.Prelude.{◌≡◌, ℕ, Bool, true, false, ◌==◌, List, [], ◌∷◌, ◌++◌, Option, None, Some}
use Rattle.mail_wire.specs.Characters.{dot, less_than, right_bracket}
use Rattle.mail_wire.specs.Lines.{first_line}
use Rattle.imap_words.specs.Languages.{Then, After, Or, Is, IsOctet, IsMoreThan, Maybe}
use Rattle.imap_words.specs.Going.{Leaves}
use Rattle.imap_words.specs.Tokens.{IsNonZero, IsSpace}
use Rattle.imap_words.specs.Keywords.{IsWordOf}
use Rattle.imap_grammar.specs.Fetching.{IsHeaderList, text_words, IsAfterWord, IsNothing, IsPartial, macro_words, IsSectionItem, IsAfterItem, IsFetchAtt, macro_items}
use Rattle.imap_grammar.specs.Awaiting.{Comes, IsAfterItems, IsRestAtLiteral}
use Rattle.imap_grammar.specs.declared.command.Command.{Command}
use Rattle.imap_grammar.specs.declared.command.FetchItem.{FetchItem}
use Rattle.imap_grammar.specs.declared.command.FetchItem.TheVariants as item
use Rattle.imap_grammar.specs.declared.command.SectionPart.{SectionPart}
use Rattle.imap_grammar.specs.declared.command.SectionPart.TheVariants as part
use Rattle.imap_grammar.specs.declared.words.ItemWord.{ItemWord}
use Rattle.imap_grammar.specs.declared.words.ItemWord.TheVariants as word
use Rattle.imap_grammar.specs.declared.words.SectionWord.{SectionWord}
use Rattle.imap_grammar.specs.declared.awaited.Fetching.{Fetching}
use Rattle.imap_grammar.specs.declared.awaited.FieldNames.{FieldNames}
use Rattle.imap_grammar.specs.declared.awaited.Awaited.TheVariants as awaited
use Rattle.imap_grammar.specs.declared.awaited.Next.{Next}
use Rattle.imap_grammar.specs.declared.awaited.Next.TheVariants as next
use Rattle.imap_grammar.specs.declared.fetch.Begun.{Begun}
use Rattle.imap_grammar.specs.declared.fetch.Step.{Step}
use Rattle.imap_grammar.specs.declared.fetch.Step.TheVariants.{Read, Awaits}

-- ---- items that were put last

-- A FETCH with these items put last.
abbrev pub with_items : Fetching → List FetchItem → Fetching
with_items f items = record { uid = f.uid; set = f.set; items = f.items ++ items; listed = f.listed }

-- A list of fields with this name put last.
abbrev pub with_name : FieldNames → List ℕ → FieldNames
with_name f name = record { fetching = f.fetching; peek = f.peek; path = f.path; negated = f.negated; names = f.names ++ name ∷ [] }

-- A section with this part number put last.
abbrev pub with_number : Begun → ℕ → Begun
with_number b number = record { fetching = b.fetching; peek = b.peek; path = b.path ++ number ∷ [] }

-- What follows the items of FETCH so far and these: more of them, or the end.
abbrev pub IsAfterThese : Bool → Fetching → List FetchItem → List ℕ → Command → Type 0
IsAfterThese utf8 f items = IsAfterItems f.listed utf8 f.uid f.set.ranges (f.items ++ items)

-- What follows that which was read of FETCH.
abbrev pub IsAfterStep : Bool → Step → List ℕ → Command → Type 0
IsAfterStep utf8 (Read f) = IsAfterItems f.listed utf8 f.uid f.set.ranges f.items
IsAfterStep utf8 (Awaits size so_far) = IsRestAtLiteral utf8 size (awaited.FieldName so_far)

-- The text is read up to there.
abbrev pub Goes : Bool → (List ℕ → Command → Type 0) → List ℕ → Step → List ℕ → Type 0
Goes utf8 L text (Read f) rest = Leaves L text (IsAfterStep utf8 (Read f)) rest
Goes utf8 L text (Awaits size so_far) rest = Comes utf8 L text (next.Awaits size (awaited.FieldName so_far)) rest

-- A literal is awaited as before, or this comes of what follows the items.
abbrev pub StepComes : Bool → Step → List ℕ → Next → List ℕ → Type 0
StepComes utf8 (Read f) text n rest = Comes utf8 (IsAfterStep utf8 (Read f)) text n rest
StepComes utf8 (Awaits size so_far) text n rest = (n ≡ next.Awaits size (awaited.FieldName so_far)) × (rest ≡ text)

-- an item was read, and no literal is awaited
abbrev pub is_read : Step → Bool
is_read (Read f) = true
is_read (Awaits size so_far) = false

-- After an item that was read a line ends, where one does in the text.
abbrev pub PassesNoEnd : List ℕ → Step → List ℕ → Type 0
PassesNoEnd text step rest = is_read step ≡ true → first_line rest ≡ None → first_line text ≡ None

-- ---- sections

-- what may go on after what says which octets
abbrev pub after_partial : Option (ℕ × ℕ) → ℕ → Bool
after_partial None x = x == less_than
after_partial (Some p) x = false

-- the end of a section, and all that follows
abbrev pub IsSectionEnd : Bool → Fetching → Bool → List ℕ → SectionPart → List ℕ → Command → Type 0
IsSectionEnd utf8 f peek path p =
    After (IsOctet right_bracket) (Then (Maybe IsPartial) (λ partial. IsAfterThese utf8 f (item.Section peek path p partial ∷ [])))

-- a list of names
abbrev pub AreNames : Bool → Fetching → Bool → List ℕ → Bool → List ℕ → Command → Type 0
AreNames utf8 f peek path negated = After IsSpace (Then (IsHeaderList utf8) (λ names. IsSectionEnd utf8 f peek path (part.Fields names negated)))

-- What follows a word of a section.
abbrev pub IsAfterText : Bool → Fetching → Bool → List ℕ → SectionWord → List ℕ → Command → Type 0
IsAfterText utf8 f peek path w = Then (IsAfterWord utf8 w) (IsSectionEnd utf8 f peek path)

-- a word of a section, after numbers or not
abbrev pub IsText : Bool → Bool → Fetching → Bool → List ℕ → List ℕ → Command → Type 0
IsText after_numbers utf8 f peek path = Then (IsWordOf (text_words after_numbers)) (IsAfterText utf8 f peek path)

-- What follows the part numbers of a section.
abbrev pub IsAfterNumbers : Bool → Fetching → Bool → List ℕ → List ℕ → Command → Type 0
IsAfterNumbers utf8 f peek path = Or (IsSectionEnd utf8 f peek path part.Whole) (After (IsOctet dot) (IsText true utf8 f peek path))

-- What follows a part number of a section, which is put last.
abbrev pub AreMoreNumbers : Bool → Fetching → Bool → List ℕ → List ℕ → Command → Type 0
AreMoreNumbers utf8 f peek path = Then (IsMoreThan (IsOctet dot) IsNonZero IsNothing path) (IsAfterNumbers utf8 f peek)

-- at one of them
abbrev pub AreNumbers : Bool → Fetching → Bool → List ℕ → List ℕ → Command → Type 0
AreNumbers utf8 f peek path = Then IsNonZero (λ n. AreMoreNumbers utf8 f peek (path ++ n ∷ []))

-- a section
abbrev pub IsSectionOf : Bool → Fetching → Bool → List ℕ → Command → Type 0
IsSectionOf utf8 f peek = Then (IsSectionItem utf8 peek) (λ i. IsAfterThese utf8 f (i ∷ []))

-- ---- items

-- what follows the word of an item or a macro
abbrev pub IsAfterAny : Bool → ItemWord → List ℕ → List FetchItem → Type 0
IsAfterAny utf8 word.All = Is (macro_items word.All)
IsAfterAny utf8 word.Fast = Is (macro_items word.Fast)
IsAfterAny utf8 word.Full = Is (macro_items word.Full)
IsAfterAny utf8 w = Then (IsAfterItem utf8 w) (λ i. Is (i ∷ []))

-- What is left of a FETCH after the word of an item or of a macro.
abbrev pub IsRestOf : Bool → Fetching → ItemWord → List ℕ → Command → Type 0
IsRestOf utf8 f w = Then (IsAfterAny utf8 w) (IsAfterThese utf8 f)

-- an item of a list
abbrev pub IsListed : Bool → Fetching → List ℕ → Command → Type 0
IsListed utf8 f = Then (IsFetchAtt utf8) (λ i. IsAfterThese utf8 f (i ∷ []))

-- an item alone, or a macro
abbrev pub IsLoneItem : Bool → Fetching → List ℕ → Command → Type 0
IsLoneItem utf8 f = Then (Or (Then (IsWordOf macro_words) (λ w. Is (macro_items w))) (Then (IsFetchAtt utf8) (λ i. Is (i ∷ [])))) (IsAfterThese utf8 f)
