-- What FETCH tells of its items (RFC 3501, 6.4.5 and 7.4.2; RFC 6857): sizes, sections and views are those of what the session is served of a message.
use Rattle.std.specs.Prelude.{ℕ, Bool, true, false, not, ◌+◌, ◌-◌, ◌++◌, List, [], ◌∷◌, Option, None, Some, length, codes, map, min, take, drop, if◌then◌else◌}
use Rattle.std.specs.Fmt.{decimal}
use Rattle.std.specs.List.{join_with_byte, list_all, list_any}
use Rattle.std.specs.Str.{str_to_ascii_uppercase}
use Rattle.mail_wire.specs.Characters.{space, dot}
use Rattle.mail_wire.specs.declared.values.Span.{Span}
use Rattle.mime_tree.specs.Sections.{section}
use Rattle.mime_tree.specs.declared.sections.Part.{Part}
use Rattle.mime_tree.specs.declared.sections.Part.TheVariants as place
use Rattle.kept_mail.specs.declared.kept.Listed.{Listed}
use Rattle.mail_store.specs.StoreState.{StoreState}
use Rattle.surrogate_cache.specs.Caching.{Asked, asked_by}
use Rattle.surrogate_cache.specs.Served.{Mode, served_by}
use Rattle.session_core.specs.Desks.{stored_date, stored_octets}
use Rattle.session_core.specs.Oracles.{Oracles}
use Rattle.imap_words.specs.Tokens.{is_atom_char}
use Rattle.imap_grammar.specs.declared.command.FetchItem.{FetchItem}
use Rattle.imap_grammar.specs.declared.command.FetchItem.TheVariants as item
use Rattle.imap_grammar.specs.declared.command.SectionPart.{SectionPart}
use Rattle.imap_grammar.specs.declared.command.SectionPart.TheVariants as part
use Rattle.imap_mailboxes.specs.Flags.{flags_text}
use Rattle.imap_mailboxes.specs.Names.{quoted}
use Rattle.imap_views.specs.Views.{View, envelope, fields, structure}
use Rattle.imap_session.specs.Replies.{ReplyPart, text, shown, viewed}

-- ---- what is served

-- What a session is served of a message: the message itself in an enabled session, and its surrogate in a legacy one (RFC 6855, 3; RFC 6857).
abbrev pub served_of : Oracles → Mode → StoreState → Listed → List ℕ
served_of oracles mode store one = served_by oracles.surrogate mode (stored_octets store one.id)

-- how many octets a session is served of a message
abbrev pub size_of : Oracles → Mode → StoreState → Listed → ℕ
size_of oracles mode store one = length (served_of oracles mode store one)

-- Where a section stands in what is served of a message, if there is one.
abbrev pub section_at : Oracles → Mode → StoreState → Listed → (path : List ℕ) → Part → Option Span
section_at oracles mode store one path what = section (oracles.outlines (served_of oracles mode store one)) path what

-- These octets of what is served of a message.
abbrev pub octets_at : Oracles → Mode → StoreState → Listed → Span → List ℕ
octets_at oracles mode store one span = take span.len (drop span.at (served_of oracles mode store one))

-- the header block of the whole message, with its empty line
abbrev pub header_octets : Oracles → Mode → StoreState → Listed → Option Span → List ℕ
header_octets oracles mode store one None = []
header_octets oracles mode store one (Some span) = octets_at oracles mode store one span

-- The header block of what is served of a message.
abbrev pub whole_header : Oracles → Mode → StoreState → Listed → List ℕ
whole_header oracles mode store one = header_octets oracles mode store one (section_at oracles mode store one [] place.Header)

-- ---- names of sections

-- a field's name in upper case: an atom, or else a quoted string
abbrev pub name_text : List ℕ → List ℕ
name_text upper = if list_all is_atom_char upper then upper else quoted upper

-- A field's name as a reply gives it: in upper case, as an atom or a quoted string.
abbrev pub field_name : List ℕ → List ℕ
field_name name = name_text (str_to_ascii_uppercase name)

-- The word of a section of named fields, or of all others, and a parenthesis (RFC 3501, 6.4.5).
abbrev pub fields_word : (negated : Bool) → List ℕ
fields_word negated = if negated then codes "HEADER.FIELDS.NOT (" else codes "HEADER.FIELDS ("

-- the words of a part
abbrev pub part_words : SectionPart → List (List ℕ)
part_words part.Whole = []
part_words part.Header = codes "HEADER" ∷ []
part_words (part.Fields names negated) = (fields_word negated ++ (join_with_byte space (map field_name names) ++ codes ")")) ∷ []
part_words part.Text = codes "TEXT" ∷ []
part_words part.Mime = codes "MIME" ∷ []

-- from which octet on a part of the section is asked
abbrev pub partial_text : Option (ℕ × ℕ) → List ℕ
partial_text None = []
partial_text (Some asked) = codes "<" ++ (decimal asked.0 ++ codes ">")

-- the name of a section in a reply: its path and its words with a dot between any two
abbrev pub section_name : (path : List ℕ) → SectionPart → Option (ℕ × ℕ) → List ℕ
section_name path what partial = codes "BODY[" ++ (join_with_byte dot (map decimal path ++ part_words what) ++ (codes "]" ++ partial_text partial))

-- ---- octets as literals

-- the header of a literal, after the name of what was asked (RFC 3501, 4.3)
abbrev pub literal_head : (asked : List ℕ) → (size : ℕ) → ReplyPart
literal_head asked size = text (asked ++ (codes " {" ++ (decimal size ++ codes "}\r\n")))

-- The part of a section that is asked for: all of it, or from an octet on so many at most (RFC 3501, 6.4.5).
abbrev pub partial_span : Option (ℕ × ℕ) → Span → Span
partial_span None span = span
partial_span (Some asked) span = record { at = span.at + min asked.0 span.len; len = min asked.1 (span.len - asked.0) }

-- All octets, or from an octet on so many at most (RFC 3501, 6.4.5).
abbrev pub partial_octets : Option (ℕ × ℕ) → List ℕ → List ℕ
partial_octets None octets = octets
partial_octets (Some asked) octets = take asked.1 (drop asked.0 octets)

-- octets of what is served
abbrev pub span_parts : Mode → StoreState → Listed → (asked : List ℕ) → Span → List ReplyPart
span_parts mode store one asked span = literal_head asked span.len ∷ shown (stored_octets store one.id) mode span.at span.len ∷ []

-- a section, or NIL where there is none
abbrev pub shown_parts : Mode → StoreState → Listed → (asked : List ℕ) → Option (ℕ × ℕ) → Option Span → List ReplyPart
shown_parts mode store one asked partial None = text (asked ++ codes " NIL") ∷ []
shown_parts mode store one asked partial (Some span) = span_parts mode store one asked (partial_span partial span)

-- a view, as a literal
abbrev pub view_parts : Mode → (asked octets : List ℕ) → List ReplyPart
view_parts mode asked octets = literal_head asked (length octets) ∷ viewed mode octets ∷ []

-- chosen fields of a header, or NIL where there is none
abbrev pub fields_parts : Oracles → Mode → StoreState → Listed → (asked : List ℕ) → Option (ℕ × ℕ) → View → Option Span → List ReplyPart
fields_parts oracles mode store one asked partial view None = text (asked ++ codes " NIL") ∷ []
fields_parts oracles mode store one asked partial view (Some span) =
    view_parts mode asked (partial_octets partial (oracles.view_of view (octets_at oracles mode store one span)))

-- which part of an entity a section's words name; fields are those of its header
abbrev pub place_of : SectionPart → Part
place_of part.Whole = place.Whole
place_of part.Header = place.Header
place_of (part.Fields names negated) = place.Header
place_of part.Text = place.Text
place_of part.Mime = place.Mime

-- The reply of a section that is there, or isn't: fields are chosen from its header, and other sections are ranges of what is served.
abbrev pub found_parts : Oracles → Mode → StoreState → Listed → (asked : List ℕ) → Option (ℕ × ℕ) → SectionPart → Option Span → List ReplyPart
found_parts oracles mode store one asked partial (part.Fields names negated) span = fields_parts oracles mode store one asked partial (fields names negated) span
found_parts oracles mode store one asked partial other span = shown_parts mode store one asked partial span

-- The reply of a section: its name, and as a literal what is served of it, or NIL where it isn't there (RFC 3501, 7.4.2).
abbrev pub section_parts : Oracles → Mode → StoreState → Listed → (asked path : List ℕ) → SectionPart → Option (ℕ × ℕ) → List ReplyPart
section_parts oracles mode store one asked path what partial =
    found_parts oracles mode store one asked partial what (section_at oracles mode store one path (place_of what))

-- ---- items

-- The reply of an item of FETCH: its word and its value (RFC 3501, 7.4.2).
abbrev pub item_parts : Oracles → Mode → StoreState → Listed → FetchItem → List ReplyPart
item_parts oracles mode store one item.Flags = text (flags_text one.flags) ∷ []
item_parts oracles mode store one item.Uid = text (codes "UID " ++ decimal one.uid) ∷ []
item_parts oracles mode store one item.InternalDate = text (codes "INTERNALDATE \"" ++ (stored_date store one.id ++ codes "\"")) ∷ []
item_parts oracles mode store one item.Size = text (codes "RFC822.SIZE " ++ decimal (size_of oracles mode store one)) ∷ []
item_parts oracles mode store one item.Rfc822 = section_parts oracles mode store one (codes "RFC822") [] part.Whole None
item_parts oracles mode store one item.Rfc822Header = section_parts oracles mode store one (codes "RFC822.HEADER") [] part.Header None
item_parts oracles mode store one item.Rfc822Text = section_parts oracles mode store one (codes "RFC822.TEXT") [] part.Text None
item_parts oracles mode store one item.Envelope = text (codes "ENVELOPE ") ∷ viewed mode (oracles.view_of envelope (whole_header oracles mode store one)) ∷ []
item_parts oracles mode store one item.Body = text (codes "BODY ") ∷ viewed mode (oracles.view_of (structure false) (served_of oracles mode store one)) ∷ []
item_parts oracles mode store one item.BodyStructure = text (codes "BODYSTRUCTURE ") ∷ viewed mode (oracles.view_of (structure true) (served_of oracles mode store one)) ∷ []
item_parts oracles mode store one (item.Section peek path what partial) = section_parts oracles mode store one (section_name path what partial) path what partial

-- The item is UID.
abbrev pub is_uid : FetchItem → Bool
is_uid item.Uid = true
is_uid other = false

-- The item is FLAGS.
abbrev pub is_flags : FetchItem → Bool
is_flags item.Flags = true
is_flags other = false

-- octets of the content that are shown without `PEEK` are seen
abbrev pub sets_seen : FetchItem → Bool
sets_seen item.Rfc822 = true
sets_seen item.Rfc822Text = true
sets_seen (item.Section peek path what partial) = not peek
sets_seen other = false

-- ---- what is asked for

-- what tells the item is in the message itself, and not kept beside it
abbrev pub is_of_message : FetchItem → Bool
is_of_message item.Flags = false
is_of_message item.Uid = false
is_of_message item.InternalDate = false
is_of_message other = true

-- a message is asked for where one of the items is of it, and once for all of them
abbrev pub asked_of : Mode → StoreState → List FetchItem → (id : ℕ) → List Asked
asked_of mode store items id = if list_any is_of_message items then asked_by mode id (stored_octets store id) else []
