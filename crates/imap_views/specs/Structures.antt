-- Structures of messages, BODY and BODYSTRUCTURE (RFC 3501, 7.4.2), over the tree of a message's entities.
use Rattle.std.specs.Prelude.{◌≡◌, ℕ, zero, suc, ◌+◌, ◌-◌, Bool, false, if◌then◌else◌, List, [], ◌∷◌, ◌++◌, codes, decimal, Some, slice_get, slice_range, nat_eq}
use Rattle.std.specs.List.{starts_with}
use Rattle.mail_wire.specs.Characters.{space}
use Rattle.mail_wire.specs.Lines.{is_crlf}
use Rattle.mime_tree.specs.declared.entity.Shape.{Shape}
use Rattle.mime_tree.specs.declared.entity.Shape.TheVariants.{Leaf, Multipart, Message}
use Rattle.mime_tree.specs.Outlines.{Outline}
use Rattle.mime_tree.specs.Openings.{is_digest_type}
use Rattle.mime_tree.specs.Sections.{children_from}
use Rattle.mime_tree.specs.Tree.{depth_max}
use Rattle.address_grammar.specs.Addresses.{quoted_string}
use Rattle.imap_views.specs.Strings.{nil, nstring, in_parentheses, spaced}
use Rattle.imap_views.specs.Fields.{HasRaws}
use Rattle.imap_views.specs.Envelopes.{HasEnvelope}
use Rattle.imap_views.specs.Parts.{PartValue, SaysPart, main_type, sub_type}

-- what is shown of a message, its entities, and whether the structure is told with what extends it
pub record Seen : Type 0 where
  pub octets : List ℕ
  pub outlines : List Outline
  pub extended : Bool

-- how many lines end in the octets
unfoldable pub ended_lines : List ℕ → ℕ
ended_lines [] = 0
ended_lines (x ∷ []) = 0
ended_lines (x ∷ y ∷ rest) = if is_crlf x y then suc (ended_lines rest) else ended_lines (y ∷ rest)

-- The octets of an entity's header block.
abbrev pub header_at : Seen → Outline → List ℕ
header_at seen outline = slice_range seen.octets outline.at outline.body

-- The octets of an entity's content.
abbrev pub content_at : Seen → Outline → List ℕ
content_at seen outline = slice_range seen.octets outline.body outline.end

-- the texts, each after a space
abbrev pub after_spaces : List (List ℕ) → List ℕ
after_spaces [] = []
after_spaces (text ∷ texts) = space ∷ (text ++ after_spaces texts)

-- The text in BODYSTRUCTURE, and nothing in BODY (RFC 3501, 7.4.2).
abbrev pub where_extended : Seen → List ℕ → List ℕ
where_extended seen text = if seen.extended then text else []

-- ---- one part

-- type, subtype, parameters, id, description, encoding and size
abbrev pub basic_words : PartValue → ℕ → List ℕ
basic_words part size = spaced (main_type part.typed.main ∷ sub_type part.typed.main ∷ part.typed.params ∷ nstring part.id ∷ nstring part.description ∷ quoted_string part.encoding ∷ decimal size ∷ [])

-- How many octets the content of an entity has.
abbrev pub size_of : Outline → ℕ
size_of outline = outline.end - outline.body

-- How many lines end in the content of an entity, in digits.
abbrev pub lines_in : Seen → Outline → List ℕ
lines_in seen outline = decimal (ended_lines (content_at seen outline))

-- a text tells its lines, too
abbrev pub text_lines : Seen → Outline → PartValue → List ℕ
text_lines seen outline part = if starts_with nat_eq part.typed.main (codes "text/") then after_spaces (lines_in seen outline ∷ []) else []

-- digest of the content, disposition, language and location
abbrev pub part_extension : Seen → PartValue → List ℕ
part_extension seen part = where_extended seen (after_spaces (nil ∷ part.disposition ∷ nil ∷ nil ∷ []))

-- The structure of a part without parts: its basic fields, the lines of a text, and the extension data (RFC 3501, 7.4.2).
abbrev pub leaf_form : Seen → Outline → PartValue → List ℕ
leaf_form seen outline part = in_parentheses (basic_words part (size_of outline) ++ (text_lines seen outline part ++ part_extension seen part))

-- The structure of a part that is a message: basic fields, its envelope, its body, its lines, and the extension data (RFC 3501, 7.4.2).
abbrev pub message_form : Seen → Outline → PartValue → List ℕ → List ℕ → List ℕ
message_form seen outline part envelope body =
    in_parentheses (basic_words part (size_of outline) ++ (after_spaces (envelope ∷ body ∷ lines_in seen outline ∷ []) ++ part_extension seen part))

-- parameters, disposition, language and location
abbrev pub multipart_extension : Seen → PartValue → List ℕ
multipart_extension seen part = where_extended seen (after_spaces (part.typed.params ∷ part.disposition ∷ nil ∷ nil ∷ []))

-- The structure of a multipart: those of its parts, its subtype, and the extension data (RFC 3501, 7.4.2).
abbrev pub multipart_form : Seen → PartValue → List ℕ → List ℕ
multipart_form seen part parts = in_parentheses (parts ++ (after_spaces (sub_type part.typed.main ∷ []) ++ multipart_extension seen part))

-- ---- parts in parts

-- The form of an entity: by whether it is in a digest, and its number.
abbrev pub FormRelation : Type 1
FormRelation = Bool → ℕ → List ℕ → Type 0

-- the entities of these numbers have these forms, one after another
abbrev pub AreForms : FormRelation → Bool → List ℕ → List ℕ → Type 0
AreForms IsForm digest [] text = text ≡ []
AreForms IsForm digest (number ∷ numbers) text =
    (first : List ℕ) × (others : List ℕ) × (text ≡ first ++ others) × IsForm digest number first × AreForms IsForm digest numbers others

-- a message: the envelope of its child, which is the next entity, and the child's own form
pub record IsMessageForm (IsForm : FormRelation) (seen : Seen) (number : ℕ) (outline : Outline) (part : PartValue) (text : List ℕ) : Type 0 where
  pub child : Outline
  pub has_child : slice_get seen.outlines (number + 1) ≡ Some child
  pub envelope : List ℕ
  pub is_envelope : HasEnvelope (header_at seen child) envelope
  pub body : List ℕ
  pub is_body : IsForm false (number + 1) body
  pub text_is : text ≡ message_form seen outline part envelope body

-- a multipart: the forms of its children, and its subtype
pub record IsMultipartForm (IsForm : FormRelation) (seen : Seen) (number : ℕ) (part : PartValue) (text : List ℕ) : Type 0 where
  pub parts : List ℕ
  pub are_parts : AreForms IsForm (is_digest_type part.typed.main) (children_from 0 seen.outlines number) parts
  pub text_is : text ≡ multipart_form seen part parts

-- The structure of an entity by its shape: a part without parts, a message, or a multipart (RFC 3501, 7.4.2).
abbrev pub IsShapedForm : FormRelation → Seen → ℕ → Outline → PartValue → List ℕ → Shape → Type 0
IsShapedForm IsForm seen number outline part text Leaf = text ≡ leaf_form seen outline part
IsShapedForm IsForm seen number outline part text Message = IsMessageForm IsForm seen number outline part text
IsShapedForm IsForm seen number outline part text Multipart = IsMultipartForm IsForm seen number part text

-- the entity of this number, and what it says of itself
pub record IsPartAt (seen : Seen) (digest : Bool) (number : ℕ) : Type 0 where
  pub outline : Outline
  pub is_outline : slice_get seen.outlines number ≡ Some outline
  pub raws : List (List ℕ)
  pub has_raws : HasRaws (header_at seen outline) raws
  pub part : PartValue
  pub says : SaysPart digest raws part

-- The form of an entity that has `levels` levels of entities, with itself, at most.
unfoldable pub IsForm : ℕ → Seen → FormRelation
IsForm zero seen digest number text = ⊥
IsForm (suc levels) seen digest number text =
    (is : IsPartAt seen digest number) × IsShapedForm (IsForm levels seen) seen number is.outline is.part text is.outline.shape

-- the structure of what is shown: the form of the whole message
abbrev pub HasStructure : Seen → List ℕ → Type 0
HasStructure seen text = IsForm (depth_max + 1) seen false 0 text
