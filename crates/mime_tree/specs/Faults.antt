-- The first fault of octets that have no tree.
use Rattle.std.specs.Prelude.{◌≡◌, ℕ, suc, zero, ◌⊎◌, List, [], ◌∷◌, Bool, false, Option}
use Rattle.mail_wire.specs.Lines.{lines_of}
use Rattle.utf8_fields.specs.declared.block.Block.{Block}
use Rattle.utf8_fields.specs.declared.block.FieldFault.{FieldFault}
use Rattle.utf8_fields.specs.declared.block.FieldFault.TheVariants.{NotField as FieldNotField, NotUtf8 as FieldNotUtf8, Memory as FieldMemory}
use Rattle.utf8_fields.specs.Faults.{IsFaultIn}
use Rattle.mime_tree.specs.declared.entity.Entity.{Entity}
use Rattle.mime_tree.specs.declared.entity.TreeFault.{TreeFault}
use Rattle.mime_tree.specs.declared.entity.TreeFault.TheVariants.{Nul, BareCr, BareLf, NotField, NotUtf8, Memory}
use Rattle.mail_wire.specs.Message.{IsSound, IsSoundBelow, IsNul, IsBareCr, IsBareLf}
use Rattle.mime_tree.specs.Parts.{Part, parts_of}
use Rattle.mime_tree.specs.declared.openings.Opening.{Opening}
use Rattle.mime_tree.specs.declared.openings.Opening.TheVariants.{Nothing, Message as OneMessage, Parts}
use Rattle.mime_tree.specs.Openings.{Opens}
use Rattle.mime_tree.specs.Tree.{EntityRelation, HasHead, IsEntity, raws_of, depth_max}

-- A faulty line: of an entity that has this place and these lines, and lies in a digest or not.
abbrev pub FaultRelation : Type 1
FaultRelation = Bool → ℕ → List (List ℕ) → FieldFault → Type 0

-- The first part that isn't an entity has the fault; those before it are entities.
abbrev pub IsFaultAmong : EntityRelation → FaultRelation → Bool → List Part → FieldFault → Type 0
IsFaultAmong IsEntity IsFault digest [] fault = ⊥
IsFaultAmong IsEntity IsFault digest (part ∷ others) fault =
    IsFault digest part.at part.lines fault
    ⊎ (((parent : Option ℕ) × (number : ℕ) × (entities : List Entity) × IsEntity parent digest number part.at part.lines entities) × IsFaultAmong IsEntity IsFault digest others fault)

-- An opened content holds the fault.
abbrev pub IsFaultInside : EntityRelation → FaultRelation → Opening → ℕ → List (List ℕ) → FieldFault → Type 0
IsFaultInside IsEntity IsFault Nothing body content fault = ⊥
IsFaultInside IsEntity IsFault OneMessage body content fault = IsFault false body content fault
IsFaultInside IsEntity IsFault (Parts boundary digest) body content fault = IsFaultAmong IsEntity IsFault digest (parts_of boundary body content) fault

-- The head of an entity that isn't one for a fault further in.
pub record HasSoundHead (at : ℕ) (lines : List (List ℕ)) : Type 0 where
  pub block : Block
  pub body : ℕ
  pub content : List (List ℕ)
  pub head : HasHead at lines block body content

-- Of the faulty lines of blocks this is the first: it stands in the entity's own block, or else in its content.
unfoldable pub IsFaultOf : ℕ → List ℕ → FaultRelation
IsFaultOf zero octets digest at lines fault = IsFaultIn lines at fault
IsFaultOf (suc levels) octets digest at lines fault =
    IsFaultIn lines at fault
    ⊎ ((is : HasSoundHead at lines) × (opening : Opening) × Opens digest (raws_of octets is.block) opening
    × IsFaultInside (IsEntity levels octets) (IsFaultOf levels octets) opening is.body is.content fault)

-- no octet of the message is faulty, and this line of a block is
abbrev pub IsLineFault : List ℕ → FieldFault → Type 0
IsLineFault octets fault = IsSound octets × IsFaultOf depth_max octets false 0 (lines_of octets) fault

-- the answer tells that the octet at this place is faulty
abbrev pub IsFaultAt : List ℕ → ℕ → TreeFault → Type 0
IsFaultAt octets place (Nul at) = (at ≡ place) × IsNul octets place
IsFaultAt octets place (BareCr at) = (at ≡ place) × IsBareCr octets place
IsFaultAt octets place (BareLf at) = (at ≡ place) × IsBareLf octets place
IsFaultAt octets place (NotField at) = ⊥
IsFaultAt octets place (NotUtf8 at) = ⊥
IsFaultAt octets place Memory = ⊥

-- the answer tells the first faulty octet
abbrev pub IsOctetFault : List ℕ → TreeFault → Type 0
IsOctetFault octets fault = (place : ℕ) × IsFaultAt octets place fault × IsSoundBelow octets place

-- The answer tells the first faulty octet, or where there is none the first faulty line of a block.
abbrev pub IsTreeFault : List ℕ → TreeFault → Type 0
IsTreeFault octets (Nul at) = IsOctetFault octets (Nul at)
IsTreeFault octets (BareCr at) = IsOctetFault octets (BareCr at)
IsTreeFault octets (BareLf at) = IsOctetFault octets (BareLf at)
IsTreeFault octets (NotField at) = IsLineFault octets (FieldNotField at)
IsTreeFault octets (NotUtf8 at) = IsLineFault octets (FieldNotUtf8 at)
IsTreeFault octets Memory = Unit {0}

-- a faulty line, as the tree's fault
abbrev pub told_of : FieldFault → TreeFault
told_of (FieldNotField at) = NotField at
told_of (FieldNotUtf8 at) = NotUtf8 at
told_of FieldMemory = Memory
