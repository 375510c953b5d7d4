-- What is due at the octets of a command that came so far, and what a reader tells of a piece (RFC 3501, 2.2, 4.3, 6.3.11 and 7.5).
use Rattle.std.specs.Prelude.{◌≡◌, ℕ, ◌+◌, ◌<◌, ◌≤◌, Bool, List, [], ◌∷◌, ◌++◌, length, take, ◌⊎◌, Option, None, Some, codes}
use Rattle.std.specs.List.{All, flat_map}
use Rattle.mail_wire.specs.Characters.{space}
use Rattle.mail_wire.specs.Lines.{first_line}
use Rattle.mail_wire.specs.declared.framing.TheConstants.{LINE_MAX}
use Rattle.imap_words.specs.Languages.{Then, After, Is, IsViable}
use Rattle.imap_words.specs.Tokens.{IsTag, IsSpace}
use Rattle.imap_words.specs.Keywords.{Named, IsWordOf}
use Rattle.imap_words.specs.Strings.{IsHeader}
use Rattle.imap_grammar.specs.Commands.{Tagged, IsCommand, IsAppendFront, AppendFront}
use Rattle.imap_grammar.specs.declared.event.Event.{Event}
use Rattle.imap_grammar.specs.declared.event.Event.TheVariants.{More, Go, Command, Bad, TooLarge, TooLong}
use Rattle.imap_grammar.specs.declared.event.TheConstants.{APPEND_MAX}
use Rattle.imap_grammar.specs.declared.words.Name.{Name}
use Rattle.imap_grammar.specs.declared.words.Name.TheVariants as name

-- ---- lines and literals (RFC 3501, 2.2.1)

-- octets up to their first CRLF
abbrev pub IsWholeLine : List ℕ → Type 0
IsWholeLine line = first_line line ≡ Some (record { line = line; rest = [] })

-- a line that ends with a literal's header, and the octets of the literal
pub record LiteralLine : Type 0 where
  pub line : List ℕ
  pub literal : List ℕ

-- The line ends with the header of a literal of so many octets (RFC 3501, 4.3).
pub record IsLiteralLine (l : LiteralLine) : Type 0 where
  pub front : List ℕ
  pub header : List ℕ
  pub is_line : IsWholeLine l.line
  pub whole : l.line ≡ front ++ header
  pub is_header : IsHeader header (length l.literal)

-- A line and the literal after it.
abbrev pub literal_line : LiteralLine → List ℕ
literal_line l = l.line ++ l.literal

-- The octets end with a line's end that stands in no literal.
pub record EndsCommandLine (octets : List ℕ) : Type 0 where
  pub before : List LiteralLine
  pub line : List ℕ
  pub whole : octets ≡ flat_map literal_line before ++ line
  pub each : All IsLiteralLine before
  pub is_line : IsWholeLine line

-- The octets end with a line's end, at which a literal of this size is announced.
pub record Announces (octets : List ℕ) (size : ℕ) : Type 0 where
  pub before : List LiteralLine
  pub line : List ℕ
  pub front : List ℕ
  pub header : List ℕ
  pub whole : octets ≡ flat_map literal_line before ++ line
  pub each : All IsLiteralLine before
  pub is_line : IsWholeLine line
  pub ends : line ≡ front ++ header
  pub is_header : IsHeader header size

-- ---- what is due

-- the first octet with which the octets so far can't be completed to a word
pub record IsFirstBad {V : Type 0} (P : List ℕ → V → Type 0) (octets : List ℕ) (at : ℕ) : Type 0 where
  pub below : at < length octets
  pub viable : IsViable P (take at octets)
  pub bad : IsViable P (take (at + 1) octets) → ⊥

-- a tag and a space, and whatever follows
pub record BeginsWithTag (octets tag : List ℕ) : Type 0 where
  pub rest : List ℕ
  pub whole : octets ≡ tag ++ space ∷ rest
  pub is_tag : IsTag tag tag

-- The octets begin with this tag and a space, or with no tag where none is given.
abbrev pub HasTag : List ℕ → Option (List ℕ) → Type 0
HasTag octets (Some tag) = BeginsWithTag octets tag
HasTag octets None = (tag : List ℕ) → BeginsWithTag octets tag → ⊥

-- an APPEND up to its data
pub record Appends : Type 0 where
  pub tag : List ℕ
  pub front : AppendFront

-- The word APPEND (RFC 3501, 6.3.11).
abbrev pub append_words : List (Named Name)
append_words = record { word = codes "APPEND"; says = name.Append } ∷ []

-- The octets are an APPEND with this tag up to the data of its message (RFC 3501, 6.3.11).
abbrev pub IsAppending : Bool → List ℕ → Appends → Type 0
IsAppending utf8 = Then IsTag (λ tag. After IsSpace (After (IsWordOf append_words) (Then (IsAppendFront utf8) (λ front. Is (record { tag = tag; front = front })))))

-- The octets are those of an APPEND to its data, as far as these are there, and what follows them.
pub record HasData (utf8 : Bool) (octets : List ℕ) (others : ℕ) : Type 0 where
  pub head : List ℕ
  pub content : List ℕ
  pub back : List ℕ
  pub appends : Appends
  pub whole : octets ≡ head ++ (content ++ back)
  pub is_head : IsAppending utf8 head appends
  pub sized : (length content ≡ appends.front.announced.size) ⊎ ((length content < appends.front.announced.size) × (back ≡ []))
  pub count : others ≡ length head + length back

-- how many octets count to the limit of a command: all but the data of APPEND
abbrev pub Counts : Bool → List ℕ → ℕ → Type 0
Counts utf8 octets n = HasData utf8 octets n ⊎ (((others : ℕ) → HasData utf8 octets others → ⊥) × (n ≡ length octets))

-- no more octets came than a command may have
abbrev pub IsShort : Bool → List ℕ → Type 0
IsShort utf8 octets = (n : ℕ) × Counts utf8 octets n × n ≤ LINE_MAX

-- APPEND announced more octets than a message may have
abbrev pub IsTooLarge : Bool → List ℕ → List ℕ → Type 0
IsTooLarge utf8 octets tag = (appends : Appends) × IsAppending utf8 octets appends × (tag ≡ appends.tag) × APPEND_MAX < appends.front.announced.size

-- A literal was announced: the line ends, and neither does the command end here, nor is the literal too large.
pub record IsAnnounced (utf8 : Bool) (octets : List ℕ) : Type 0 where
  pub ends : EndsCommandLine octets
  pub viable : IsViable (IsCommand utf8) octets
  pub no_command : (command : Tagged) → IsCommand utf8 octets command → ⊥
  pub not_large : (tag : List ℕ) → IsTooLarge utf8 octets tag → ⊥

-- What is due at these octets of a command, when they came. That they are too many counts first.
abbrev pub IsDue : Bool → List ℕ → Event → Type 0
IsDue utf8 octets More = ⊥
IsDue utf8 octets Go = IsShort utf8 octets × IsAnnounced utf8 octets
IsDue utf8 octets (Command tag command) = IsShort utf8 octets × IsCommand utf8 octets (record { tag = tag; command = command })
IsDue utf8 octets (Bad tag at) = IsShort utf8 octets × EndsCommandLine octets × IsFirstBad (IsCommand utf8) octets at × HasTag octets tag
IsDue utf8 octets (TooLarge tag) = IsShort utf8 octets × IsTooLarge utf8 octets tag
IsDue utf8 octets TooLong = IsShort utf8 octets → ⊥

-- ---- what a reader tells

-- Nothing is due at the octets with fewer than so many of the piece, but with one at least.
abbrev pub NothingBefore : Bool → (seen piece : List ℕ) → ℕ → Type 0
NothingBefore utf8 seen piece used = (n : ℕ) → 0 < n → n < used → (event : Event) → IsDue utf8 (seen ++ take n piece) event → ⊥

-- After the octets that were seen, so many of the piece are used up to the first event; where there is none, all.
abbrev pub Tells : Bool → (seen piece : List ℕ) → ℕ → Event → Type 0
Tells utf8 seen piece used More = (used ≡ length piece) × NothingBefore utf8 seen piece (length piece + 1)
Tells utf8 seen piece used event = (0 < used) × (used ≤ length piece) × NothingBefore utf8 seen piece used × IsDue utf8 (seen ++ take used piece) event

-- which octets of a command were seen when the reader goes on
abbrev pub seen_after : (seen piece : List ℕ) → ℕ → Event → List ℕ
seen_after seen piece used More = seen ++ piece
seen_after seen piece used Go = seen ++ take used piece
seen_after seen piece used event = []
