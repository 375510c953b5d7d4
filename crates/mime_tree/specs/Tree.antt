-- The tree of a message's entities, from the outer entity inward (RFC 2046, 5), and whether a header block is in UTF-8 (RFC 6532, 3).
use Rattle.std.specs.Prelude.{◌≡◌, ℕ, suc, zero, ◌+◌, ◌-◌, List, [], ◌∷◌, ◌++◌, Bool, false, length, take, drop, map, Option, Some, None}
use Rattle.std.specs.List.{list_any}
use Rattle.mail_wire.specs.Lines.{lines_of}
use Rattle.utf8_fields.specs.declared.block.Block.{Block}
use Rattle.utf8_fields.specs.Block.{HasBlockIn, raw_of}
use Rattle.mime_tree.specs.declared.entity.Entity.{Entity}
use Rattle.mime_tree.specs.declared.entity.Shape.{Shape}
use Rattle.mime_tree.specs.declared.entity.Shape.TheVariants.{Leaf, Multipart, Message}
use Rattle.mail_wire.specs.Message.{IsSound}
use Rattle.mail_wire.specs.Octets.{is_high}
use Rattle.mime_tree.specs.Parts.{Part, parts_of, size}
use Rattle.mime_tree.specs.declared.openings.Opening.{Opening}
use Rattle.mime_tree.specs.declared.openings.Opening.TheVariants.{Nothing, Message as OneMessage, Parts}
use Rattle.mime_tree.specs.Openings.{Opens}

-- The lines, the first of which stands at `at`, begin with the block. The content follows the block's empty line, at `body`.
pub record HasHead (at : ℕ) (lines : List (List ℕ)) (block : Block) (body : ℕ) (content : List (List ℕ)) : Type 0 where
  pub has_block : HasBlockIn lines at block.fields block.end
  pub content_is : content ≡ drop 1 has_block.rest
  pub body_is : body ≡ block.end + size (take 1 has_block.rest)

-- These are the entities of one entity, whose lines these are: first itself, and then those in it.
pub record IsWithInner (parent : Option ℕ) (depth at : ℕ) (lines : List (List ℕ)) (entities : List Entity) : Type 0 where
  pub entity : Entity
  pub content : List (List ℕ)
  pub inner : List Entity
  pub entities_are : entities ≡ entity ∷ inner
  pub head : HasHead at lines entity.block entity.body content
  pub parent_is : entity.parent ≡ parent
  pub depth_is : entity.depth ≡ depth
  pub at_is : entity.at ≡ at
  pub end_is : entity.end ≡ at + size lines

-- An entity: by its parent, whether that is a digest, its number, its place and its lines it has these entities.
abbrev pub EntityRelation : Type 1
EntityRelation = Option ℕ → Bool → ℕ → ℕ → List (List ℕ) → List Entity → Type 0

-- The parts are entities, numbered on.
abbrev pub AreParts : EntityRelation → Option ℕ → Bool → ℕ → List Part → List Entity → Type 0
AreParts IsEntity parent digest number [] entities = entities ≡ []
AreParts IsEntity parent digest number (part ∷ others) entities =
    (first : List Entity) × (rest : List Entity) × (entities ≡ first ++ rest) × IsEntity parent digest number part.at part.lines first
    × AreParts IsEntity parent digest (number + length first) others rest

-- What an opened content holds where it has these parts. Without parts it isn't opened.
abbrev pub IsDivided : EntityRelation → Bool → ℕ → List Part → Shape → List Entity → Type 0
IsDivided IsEntity digest number [] shape inner = (shape ≡ Leaf) × (inner ≡ [])
IsDivided IsEntity digest number (part ∷ others) shape inner = (shape ≡ Multipart) × AreParts IsEntity (Some number) digest (number + 1) (part ∷ others) inner

-- What is in the entity of this number, whose content begins at `body`.
abbrev pub IsOpened : EntityRelation → Opening → ℕ → ℕ → List (List ℕ) → Shape → List Entity → Type 0
IsOpened IsEntity Nothing number body content shape inner = (shape ≡ Leaf) × (inner ≡ [])
IsOpened IsEntity OneMessage number body content shape inner = (shape ≡ Message) × IsEntity (Some number) false (number + 1) body content inner
IsOpened IsEntity (Parts boundary digest) number body content shape inner = IsDivided IsEntity digest number (parts_of boundary body content) shape inner

-- how deep an entity may be that is opened
abbrev pub depth_max : ℕ
depth_max = 32

-- the raw fields of a block of the message
abbrev pub raws_of : List ℕ → Block → List (List ℕ)
raws_of octets block = map (raw_of octets) block.fields

-- an octet above 127 stands in the header block of one of the entities
abbrev pub has_high_block : List ℕ → List Entity → Bool
has_high_block octets entities = list_any (λ (entity : Entity). list_any is_high (raws_of octets entity.block)) entities

-- An entity of the message that has `levels` levels of entities in it at most.
unfoldable pub IsEntity : ℕ → List ℕ → EntityRelation
IsEntity zero octets parent digest number at lines entities =
    (is : IsWithInner parent (depth_max + 1) at lines entities) × (is.entity.shape ≡ Leaf) × (is.inner ≡ [])
IsEntity (suc levels) octets parent digest number at lines entities =
    (is : IsWithInner parent (depth_max - levels) at lines entities)
    × (opening : Opening) × Opens digest (raws_of octets is.entity.block) opening
    × IsOpened (IsEntity levels octets) opening number is.entity.body is.content is.entity.shape is.inner

-- The message has this tree: it is one entity, whose lines are all lines.
pub record HasTree (octets : List ℕ) (entities : List Entity) : Type 0 where
  pub is_message : IsSound octets
  pub root : IsEntity depth_max octets None false 0 0 (lines_of octets) entities
