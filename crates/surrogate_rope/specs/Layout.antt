-- The surrogate of a message (RFC 6857, 3): its octets, and what they keep.
use Rattle.std.specs.Prelude.{◌≡◌, ℕ, ◌↔◌, List, Bool, true, length, codes, Some, IsTrue}
use Rattle.std.specs.List.{list_all, AllByRecursion}
use Rattle.mail_wire.specs.Octets.{is_ascii}
use Rattle.param_2231.specs.GlobalTypes.{NamesGlobal}
use Rattle.field_downgrade.specs.Stands.{HasFieldLayout, Stands}
use Rattle.mime_tree.specs.declared.entity.Entity.{Entity}
use Rattle.mime_tree.specs.declared.entity.Shape.TheVariants.{Message}
use Rattle.mime_tree.specs.Openings.{IsFirstValue}
use Rattle.mime_tree.specs.Tree.{HasTree, raws_of}
use Rattle.mime_tree.specs.Rewriting.{RewritesBlocks, AreSame}

-- The entity is an opened message/global: its first Content-Type says so (RFC 6532, 3.7).
pub record IsOpenGlobal (msg : List ℕ) (entity : Entity) : Type 0 where
  pub shape : entity.shape ≡ Message
  pub text : List ℕ
  pub first : IsFirstValue (codes "Content-Type") (raws_of msg entity.block) (Some text)
  pub at : ℕ
  pub names : NamesGlobal text at

-- This holds of a field of the entity and the made one, in an opened message/global or not.
pub record InEntity (Holds : Bool → List ℕ → List ℕ → Type 0) (msg : List ℕ) (entity : Entity) (raw made : List ℕ) : Type 0 where
  pub open_global : Bool
  pub is_open : IsTrue open_global ↔ IsOpenGlobal msg entity
  pub holds : Holds open_global raw made

-- the message of these entities with the field that the layout rule gives in place of each field
abbrev pub HasLayout : List ℕ → List Entity → List ℕ → Type 0
HasLayout msg entities made = RewritesBlocks (InEntity HasFieldLayout msg) msg 0 (length msg) entities made

-- the made field stands for the other one, and is ASCII
abbrev pub StandsInAscii : Bool → List ℕ → List ℕ → Type 0
StandsInAscii open_global raw made = Stands raw made open_global × (list_all is_ascii made ≡ true)

-- A surrogate of the message: both have trees of the same entities, each field stands for the one at its place and is ASCII, and what stands in no block is the same.
pub record IsSurrogate (msg made : List ℕ) : Type 0 where
  pub entities : List Entity
  pub others : List Entity
  pub tree : HasTree msg entities
  pub made_tree : HasTree made others
  pub same : AreSame (InEntity StandsInAscii msg) msg (length msg) entities made (length made) others

-- The message has this surrogate: the one that the layout rule gives.
pub record HasSurrogate (msg made : List ℕ) : Type 0 where
  pub entities : List Entity
  pub tree : HasTree msg entities
  pub layout : HasLayout msg entities made
  pub surrogate : IsSurrogate msg made

-- The message has itself as its surrogate.
abbrev pub IsItsOwnSurrogate : List ℕ → Type 0
IsItsOwnSurrogate made = HasSurrogate made made

-- Every octet of every header block is ASCII.
pub record HasAsciiBlocks (shown : List ℕ) : Type 0 where
  pub entities : List Entity
  pub tree : HasTree shown entities
  pub ascii : AllByRecursion (λ (entity : Entity). AllByRecursion (λ raw. list_all is_ascii raw ≡ true) (raws_of shown entity.block)) entities
