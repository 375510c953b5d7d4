-- What is known of an entity without its header block.
use Rattle.std.specs.Prelude.{ℕ, List, map, Option}
use Rattle.mime_tree.specs.declared.entity.Entity.{Entity}
use Rattle.mime_tree.specs.declared.entity.Shape.{Shape}
use Rattle.mime_tree.specs.declared.outlines.Outline.{Outline as OutlineOf}

-- an entity without its header block
pub record Outline : Type 0 where
  pub parent : Option ℕ
  pub depth : ℕ
  pub at : ℕ
  pub body : ℕ
  pub end : ℕ
  pub shape : Shape

-- An entity without its header block.
abbrev pub outline_of : Entity → Outline
outline_of entity = record { parent = entity.parent; depth = entity.depth; at = entity.at; body = entity.body; end = entity.end; shape = entity.shape }

-- The entities without their header blocks.
abbrev pub outlines_of : List Entity → List Outline
outlines_of entities = map outline_of entities

-- what is known of an entity, as the program tells it
abbrev pub seen_outline : OutlineOf → Outline
seen_outline outline = record { parent = outline.parent; depth = outline.depth; at = outline.at; body = outline.body; end = outline.end; shape = outline.shape }
