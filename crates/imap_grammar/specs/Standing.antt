-- Which octets of a command a reader has seen.
use Rattle.std.specs.Prelude.{◌≡◌, ℕ, ◌+◌, ◌-◌, ◌<◌, ◌≤◌, nat_lt, Bool, true, false, List, [], ◌∷◌, ◌++◌, length, take, drop, Option, None, ◌⊎◌, ⊤, if◌then◌else◌}
use Rattle.std.specs.List.{list_all}
use Rattle.mail_wire.specs.Lines.{first_line}
use Rattle.mail_wire.specs.declared.framing.TheConstants.{LINE_MAX}
use Rattle.imap_words.specs.Languages.{Then, Is}
use Rattle.imap_words.specs.Reading.{Reads, never}
use Rattle.imap_words.specs.Going.{Leaves}
use Rattle.imap_words.specs.Tokens.{is_name_char}
use Rattle.imap_words.specs.declared.stop.Stop.{Stop}
use Rattle.imap_words.specs.declared.stop.Stop.TheVariants as stop
use Rattle.imap_grammar.specs.Commands.{Tagged, IsCommand}
use Rattle.imap_grammar.specs.Events.{IsWholeLine, Announces, BeginsWithTag, HasTag, IsFirstBad, Appends, IsAppending, IsShort, NothingBefore}
use Rattle.imap_grammar.specs.Awaiting.{IsRestAtLiteral, IsSized, IsAfterHeader}
use Rattle.imap_grammar.specs.declared.awaited.Awaited.{Awaited}
use Rattle.imap_grammar.specs.declared.awaited.Awaited.TheVariants as awaited
use Rattle.imap_grammar.specs.declared.awaited.Next.{Next}
use Rattle.imap_grammar.specs.declared.awaited.Next.TheVariants as next
use Rattle.imap_grammar.specs.declared.reader.Turn.{Turn}
use Rattle.imap_grammar.specs.declared.reader.Turn.TheVariants as turn
use Rattle.imap_grammar.specs.declared.event.TheConstants.{APPEND_MAX}
use Rattle.imap_grammar.specs.declared.event.Event.{Event}
use Rattle.imap_grammar.specs.declared.event.Event.TheVariants as event
use Rattle.imap_grammar.specs.declared.reader.Found.{Found}
use Rattle.imap_grammar.specs.declared.reader.Found.TheVariants as found
use Rattle.imap_grammar.specs.declared.reader.Stage.{Stage}
use Rattle.imap_grammar.specs.declared.reader.Stage.TheVariants.{Begin, AfterLiteral}
use Rattle.imap_grammar.specs.declared.reader.Reader.{Reader}

-- what is left of a command
abbrev pub left_of : Bool → Stage → List ℕ → Tagged → Type 0
left_of utf8 Begin = IsCommand utf8
left_of utf8 (AfterLiteral tag size a) = Then (IsRestAtLiteral utf8 size a) (λ c. Is (record { tag = tag; command = c }))

-- Data are awaited after an APPEND up to its data, and nowhere else.
abbrev pub IsAtData : Bool → Awaited → List ℕ → Type 0
IsAtData utf8 (awaited.AppendData mailbox flags date in_utf8) front = (appends : Appends) × IsAppending utf8 front appends
IsAtData utf8 a front = (appends : Appends) → IsAppending utf8 front appends → ⊥

-- The octets have reached the stage.
abbrev pub Reached : Bool → Stage → List ℕ → Type 0
Reached utf8 Begin front = front ≡ []
Reached utf8 (AfterLiteral tag size a) front = Announces front size × IsSized size a × BeginsWithTag front tag × IsAtData utf8 a front

-- no data come before
abbrev pub HasNoDataBefore : Bool → List ℕ → Type 0
HasNoDataBefore utf8 front = (head back : List ℕ) (appends : Appends) → front ≡ head ++ back → IsAppending utf8 head appends → back ≡ []

-- no more octets of the literal than it has, and none of a line before it is whole
abbrev pub FitsStage : Stage → (literal line : List ℕ) → Type 0
FitsStage Begin literal line = literal ≡ []
FitsStage (AfterLiteral tag size a) literal line = (length literal ≤ size) × ((length literal ≡ size) ⊎ (line ≡ []))

-- how many octets the literal has
abbrev pub size_of : Stage → ℕ
size_of Begin = 0
size_of (AfterLiteral tag size a) = size

-- The literal that is awaited is the data of an APPEND.
abbrev pub is_data : Stage → Bool
is_data (AfterLiteral tag size (awaited.AppendData mailbox flags date in_utf8)) = true
is_data stage = false

-- APPEND announced more octets than a message may have
abbrev pub too_large : ℕ → Awaited → Bool
too_large size (awaited.AppendData mailbox flags date in_utf8) = nat_lt APPEND_MAX size
too_large size a = false

-- no more data are awaited than a message may have
abbrev pub AwaitsFew : Stage → Type 0
AwaitsFew stage = is_data stage ≡ true → size_of stage ≤ APPEND_MAX

-- how many octets count to the limit
abbrev pub counted_at : Stage → (front literal line : List ℕ) → ℕ
counted_at stage front literal line = if is_data stage then length front + length line else length front + length literal + length line

-- The reader has seen these octets of a command.
pub record HasSeen (utf8 : Bool) (reader : Reader) (seen : List ℕ) : Type 0 where
  pub front : List ℕ
  pub whole : seen ≡ front ++ (reader.literal ++ reader.line)
  pub so_many : length front ≡ reader.seen
  pub leaves : Leaves (IsCommand utf8) front (left_of utf8 reader.stage) []
  pub reached : Reached utf8 reader.stage front
  pub alone : HasNoDataBefore utf8 front
  pub bounded : AwaitsFew reader.stage
  pub fits : FitsStage reader.stage reader.literal reader.line
  pub no_line : first_line reader.line ≡ None
  pub counts : reader.counted ≡ counted_at reader.stage front reader.literal reader.line
  pub few : reader.counted ≤ LINE_MAX

-- ---- what comes of a whole line

-- the command is whole, or so far that a literal is awaited
abbrev pub TaggedComes : Bool → List ℕ → (List ℕ → Tagged → Type 0) → List ℕ → Next → List ℕ → Type 0
TaggedComes utf8 tag P text (next.Whole c) rest = Reads P never text (record { tag = tag; command = c }) rest
TaggedComes utf8 tag P text (next.Awaits size a) rest = IsSized size a × Leaves P text (left_of utf8 (AfterLiteral tag size a)) rest

-- a literal that is awaited was announced at the end of these octets
abbrev pub HasHeader : List ℕ → Next → List ℕ → Type 0
HasHeader line (next.Whole c) rest = ⊤
HasHeader line (next.Awaits size a) rest = IsAfterHeader line size rest

-- the first line of a command is read
abbrev pub LineComes : Bool → List ℕ → Next → Type 0
LineComes utf8 line next = (tag : List ℕ) × (rest : List ℕ) × BeginsWithTag line tag × HasHeader line next rest × TaggedComes utf8 tag (IsCommand utf8) line next rest

-- what comes of these octets of a command, which end a line
abbrev pub TurnTells : Bool → List ℕ → Turn → Type 0
TurnTells utf8 octets (turn.Whole tag c) = IsCommand utf8 octets (record { tag = tag; command = c }) × ((appends : Appends) → IsAppending utf8 octets appends → ⊥)
TurnTells utf8 octets (turn.Awaits tag size a) = Leaves (IsCommand utf8) octets (left_of utf8 (AfterLiteral tag size a)) [] × Reached utf8 (AfterLiteral tag size a) octets × HasNoDataBefore utf8 octets
TurnTells utf8 octets (turn.Bad tag left) = (left ≤ length octets) × IsFirstBad (IsCommand utf8) octets (length octets - left) × HasTag octets tag

-- What a line brings after this tag: a whole command, or a wait for a literal.
abbrev pub went_on : List ℕ → Next → Turn
went_on tag (next.Whole c) = turn.Whole tag c
went_on tag (next.Awaits size a) = turn.Awaits tag size a

-- what comes where a reader stopped
abbrev pub Stopped : Option (List ℕ) → Stop → Turn → Type 0
Stopped tag (stop.Bad left) t = t ≡ turn.Bad tag left
Stopped tag s t = ⊥

-- an octet that no field's name has, the first one, with so many octets from there to the line's end
pub record HasBadName (literal line : List ℕ) (left : ℕ) : Type 0 where
  pub front : List ℕ
  pub octet : ℕ
  pub back : List ℕ
  pub whole : literal ≡ front ++ octet ∷ back
  pub before : list_all is_name_char front ≡ true
  pub bad : is_name_char octet ≡ false
  pub left_is : left ≡ length (octet ∷ back) + length line

-- ---- where the next line ends

-- the line so far with these octets, those that the literal lacks left out
abbrev pub line_with : Reader → List ℕ → List ℕ
line_with reader octets = reader.line ++ drop (size_of reader.stage - length reader.literal) octets

-- how many of the octets count
abbrev pub counting : Reader → List ℕ → ℕ
counting reader octets = if is_data reader.stage then length (drop (size_of reader.stage - length reader.literal) octets) else length octets

-- A command with these octets has no more than one may have.
abbrev pub IsUnderLimit : Reader → List ℕ → Type 0
IsUnderLimit reader octets = reader.counted + counting reader octets ≤ LINE_MAX

-- a line ends in these octets
abbrev pub HasLineEnd : List ℕ → Type 0
HasLineEnd octets = first_line octets ≡ None → ⊥

-- where a line ends in the piece, it does so in the line so far with it
abbrev pub EndsThere : Reader → List ℕ → Found → Type 0
EndsThere reader piece (found.Whole used) = HasLineEnd (line_with reader (take used piece))
EndsThere reader piece f = ⊤

-- What was found uses no more octets than the piece has.
abbrev pub IsFoundWithin : Found → List ℕ → Type 0
IsFoundWithin (found.Whole used) piece = used ≤ length piece
IsFoundWithin (found.TooLong used) piece = used ≤ length piece
IsFoundWithin found.Waiting piece = ⊤

-- What a reader finds in a piece: nothing that is due, the line with which something is due, or that the command is too long.
abbrev pub Finds : Bool → Reader → (seen piece : List ℕ) → Found → Type 0
Finds utf8 reader seen piece found.Waiting = NothingBefore utf8 seen piece (length piece + 1) × (first_line (line_with reader piece) ≡ None) × IsUnderLimit reader piece
Finds utf8 reader seen piece (found.Whole used) =
    (0 < used) × NothingBefore utf8 seen piece used × IsWholeLine (line_with reader (take used piece)) × (size_of reader.stage ≤ length reader.literal + used) × IsUnderLimit reader (take used piece)
Finds utf8 reader seen piece (found.TooLong used) = (0 < used) × NothingBefore utf8 seen piece used × (IsShort utf8 (seen ++ take used piece) → ⊥)

-- the octets are put last
pub record HasPut (reader : Reader) (octets : List ℕ) (after : Reader) : Type 0 where
  pub same_stage : after.stage ≡ reader.stage
  pub same_seen : after.seen ≡ reader.seen
  pub literal : after.literal ≡ reader.literal ++ take (size_of reader.stage - length reader.literal) octets
  pub line : after.line ≡ line_with reader octets
  pub counted : IsUnderLimit reader octets → after.counted ≡ reader.counted + counting reader octets

-- The reader has seen these octets of a command, and they end a line.
pub record IsAtLine (utf8 : Bool) (reader : Reader) (seen : List ℕ) : Type 0 where
  pub front : List ℕ
  pub whole : seen ≡ front ++ (reader.literal ++ reader.line)
  pub so_many : length front ≡ reader.seen
  pub leaves : Leaves (IsCommand utf8) front (left_of utf8 reader.stage) []
  pub reached : Reached utf8 reader.stage front
  pub alone : HasNoDataBefore utf8 front
  pub bounded : AwaitsFew reader.stage
  pub sized : length reader.literal ≡ size_of reader.stage
  pub is_line : IsWholeLine reader.line
  pub counts : reader.counted ≡ counted_at reader.stage front reader.literal reader.line
  pub few : reader.counted ≤ LINE_MAX

-- which octets of a command were seen after what is due at these
abbrev pub left_after : List ℕ → Event → List ℕ
left_after seen event.Go = seen
left_after seen e = []
