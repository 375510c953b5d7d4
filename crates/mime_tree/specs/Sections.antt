-- Sections of a message (RFC 3501, 6.4.5), over what is known of its entities.
use Rattle.std.specs.Prelude.{ℕ, zero, suc, ◌+◌, ◌-◌, List, [], ◌∷◌, Bool, false, ◌==◌, if◌then◌else◌, slice_get, Option, Some, None, option_map, option_and_then}
use Rattle.mail_wire.specs.declared.values.Span.{Span}
use Rattle.mime_tree.specs.declared.entity.Shape.{Shape}
use Rattle.mime_tree.specs.declared.entity.Shape.TheVariants.{Leaf, Multipart, Message}
use Rattle.mime_tree.specs.declared.sections.Part.{Part}
use Rattle.mime_tree.specs.declared.sections.Part.TheVariants.{Whole, Header, Text, Mime}
use Rattle.mime_tree.specs.Outlines.{Outline}

-- the entity of this number is the one that it is in
abbrev pub is_in : Option ℕ → ℕ → Bool
is_in None number = false
is_in (Some parent) number = parent == number

-- the numbers of the entities that are directly in this one, in order; the first of the list has the number `from`
unfoldable pub children_from : ℕ → List Outline → ℕ → List ℕ
children_from from [] number = []
children_from from (outline ∷ outlines) number =
    if is_in outline.parent number then from ∷ children_from (from + 1) outlines number else children_from (from + 1) outlines number

-- the n-th child, counted from 1
abbrev pub child : List Outline → ℕ → ℕ → Option ℕ
child outlines number zero = None
child outlines number (suc n) = slice_get (children_from 0 outlines number) n

-- 1 is the entity itself
abbrev pub itself : ℕ → ℕ → Option ℕ
itself number n = if n == 1 then Some number else None

-- What n names at the entity of this number and shape: at a multipart its n-th child, at another entity 1 names the entity itself.
abbrev pub named_at : List Outline → ℕ → ℕ → Shape → Option ℕ
named_at outlines number n Multipart = child outlines number n
named_at outlines number n Message = itself number n
named_at outlines number n Leaf = itself number n

-- The entity that a number names within another one, where there is such an entity (RFC 3501, 6.4.5).
abbrev pub named : List Outline → ℕ → ℕ → Option ℕ
named outlines number n = option_and_then (λ (outline : Outline). named_at outlines number n outline.shape) (slice_get outlines number)

-- What n names after an earlier number has named this entity: at a message it is read at the message's child, which is the next entity.
abbrev pub next_at : List Outline → ℕ → ℕ → Shape → Option ℕ
next_at outlines number n Message = named outlines (number + 1) n
next_at outlines number n Multipart = named outlines number n
next_at outlines number n Leaf = named outlines number n

-- The entity that a further part number names, within this one (RFC 3501, 6.4.5).
abbrev pub next : List Outline → ℕ → ℕ → Option ℕ
next outlines number n = option_and_then (λ (outline : Outline). next_at outlines number n outline.shape) (slice_get outlines number)

-- the entity that the further numbers of a path name, from the one on that the earlier ones have named
unfoldable pub named_on : List Outline → List ℕ → ℕ → Option ℕ
named_on outlines [] number = Some number
named_on outlines (n ∷ path) number = option_and_then (named_on outlines path) (next outlines number n)

-- The entity that a path names. Its first number is read at the whole message. With no number none is named.
abbrev pub named_by : List Outline → List ℕ → Option ℕ
named_by outlines [] = None
named_by outlines (n ∷ path) = option_and_then (named_on outlines path) (named outlines 0 n)

-- The span from one place to another.
abbrev pub between : ℕ → ℕ → Span
between from to = record { at = from; len = to - from }

-- an entity: its header block and its content
abbrev pub whole_of : Outline → Span
whole_of outline = between outline.at outline.end

-- The header block of an entity.
abbrev pub header_of : Outline → Span
header_of outline = between outline.at outline.body

-- The content of an entity.
abbrev pub content_of : Outline → Span
content_of outline = between outline.body outline.end

-- the child of the entity of this number, where that is a message
abbrev pub child_of : List Outline → ℕ → Shape → Option Outline
child_of outlines number Message = slice_get outlines (number + 1)
child_of outlines number Multipart = None
child_of outlines number Leaf = None

-- What is asked of an entity that a path has named: its content, its header, or those of the message that it holds.
abbrev pub part_of : List Outline → ℕ → Part → Outline → Option Span
part_of outlines number Whole outline = Some (content_of outline)
part_of outlines number Mime outline = Some (header_of outline)
part_of outlines number Header outline = option_map header_of (child_of outlines number outline.shape)
part_of outlines number Text outline = option_map content_of (child_of outlines number outline.shape)

-- Where the asked part of the entity of this number stands, if there is one (RFC 3501, 6.4.5).
abbrev pub part_at : List Outline → Part → ℕ → Option Span
part_at outlines part number = option_and_then (part_of outlines number part) (slice_get outlines number)

-- What is asked of the whole message. It is no part of another, and so it has no header of a part.
abbrev pub part_of_all : Part → Outline → Option Span
part_of_all Whole outline = Some (whole_of outline)
part_of_all Header outline = Some (header_of outline)
part_of_all Text outline = Some (content_of outline)
part_of_all Mime outline = None

-- what is asked of the entity that a path names, or without a path of the whole message
abbrev pub section : List Outline → List ℕ → Part → Option Span
section outlines [] part = option_and_then (part_of_all part) (slice_get outlines 0)
section outlines (n ∷ path) part = option_and_then (part_at outlines part) (named_by outlines (n ∷ path))
