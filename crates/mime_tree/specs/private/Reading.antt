-- What the steps of the reader answer.
use Rattle.std.specs.Prelude.{◌≡◌, ℕ, suc, zero, ◌≤◌, List, [], ◌++◌, Bool, length, Option}
use Rattle.utf8_fields.specs.declared.block.FieldFault.{FieldFault}
use Rattle.mime_tree.specs.declared.entity.Entity.{Entity}
use Rattle.mime_tree.specs.declared.entity.Shape.{Shape}
use Rattle.mime_tree.specs.declared.entity.Shape.TheVariants.{Leaf}
use Rattle.mime_tree.specs.declared.reading.Stop.{Stop}
use Rattle.mime_tree.specs.declared.reading.Start.{Start}
use Rattle.mime_tree.specs.declared.reading.Head.{Head}
use Rattle.mime_tree.specs.declared.reading.Opened.{Opened}
use Rattle.mime_tree.specs.Parts.{Part}
use Rattle.mime_tree.specs.declared.openings.Opening.{Opening}
use Rattle.mime_tree.specs.private.Open.{region, after, lines_at, IsStop, IsStart}
use Rattle.mime_tree.specs.Openings.{AreFieldsWithin}
use Rattle.mime_tree.specs.Tree.{HasHead, IsOpened, IsDivided, IsEntity}
use Rattle.mime_tree.specs.Faults.{IsFaultInside, IsFaultOf}

-- the lines of an entity, from `from` on
abbrev pub region_at : List (List ℕ) → List ℕ → ℕ → List (List ℕ)
region_at boundaries octets from = region boundaries (lines_at octets from)

-- This head begins there, and its content is what is read from its start on.
pub record IsHeadRead (boundaries : List (List ℕ)) (octets : List ℕ) (start : Start) (head : Head) : Type 0 where
  pub head_is : HasHead start.at (region_at boundaries octets start.from) head.block head.content.at (region_at boundaries octets head.content.from)
  pub after_is : after boundaries (lines_at octets head.content.from) ≡ after boundaries (lines_at octets start.from)
  pub onward : start.from ≤ head.content.from
  pub is_start : IsStart boundaries octets head.content
  pub within : AreFieldsWithin octets head.block.fields

-- what is in an entity, where `levels` levels of entities may be in it
abbrev pub IsWithinEntity : ℕ → List ℕ → Opening → ℕ → ℕ → List (List ℕ) → Shape → List Entity → Type 0
IsWithinEntity zero octets opening number body content shape inner = (shape ≡ Leaf) × (inner ≡ [])
IsWithinEntity (suc levels) octets opening number body content shape inner = IsOpened (IsEntity levels octets) opening number body content shape inner

abbrev pub IsFaultWithin : ℕ → List ℕ → Opening → ℕ → List (List ℕ) → FieldFault → Type 0
IsFaultWithin zero octets opening body content fault = ⊥
IsFaultWithin (suc levels) octets opening body content fault = IsFaultInside (IsEntity levels octets) (IsFaultOf levels octets) opening body content fault

-- The entities that were added are those of the content.
pub record IsInsideRead (levels : ℕ) (boundaries : List (List ℕ)) (octets : List ℕ) (opening : Opening) (number : ℕ) (content : Start) (old new : List Entity) (opened : Opened) : Type 0 where
  pub more : List Entity
  pub added : new ≡ old ++ more
  pub inside : IsWithinEntity levels octets opening number content.at (region_at boundaries octets content.from) opened.shape more
  pub stop_is : IsStop boundaries octets content.from opened.stop

-- The same of the parts of a content.
pub record IsDividedRead (levels : ℕ) (boundaries : List (List ℕ)) (octets : List ℕ) (parts : List Part) (digest : Bool) (number from : ℕ) (old new : List Entity) (opened : Opened) : Type 0 where
  pub more : List Entity
  pub added : new ≡ old ++ more
  pub divided : IsDivided (IsEntity levels octets) digest number parts opened.shape more
  pub stop_is : IsStop boundaries octets from opened.stop

-- The entities that were added are those of the entity that begins there.
pub record IsEntityRead (levels : ℕ) (boundaries : List (List ℕ)) (octets : List ℕ) (parent : Option ℕ) (digest : Bool) (start : Start) (old new : List Entity) (stop : Stop) : Type 0 where
  pub more : List Entity
  pub added : new ≡ old ++ more
  pub entity : IsEntity levels octets parent digest (length old) start.at (region_at boundaries octets start.from) more
  pub stop_is : IsStop boundaries octets start.from stop
