-- The octets that the store may keep (RFC 5322; RFC 2045; RFC 2046), and their mark.
use Rattle.std.specs.Prelude.{◌≡◌, ℕ, ◌+◌, List, Option, Some, None, if◌then◌else◌}
use Rattle.mail_wire.specs.Octets.{is_high}
use Rattle.mime_tree.specs.declared.entity.Entity.{Entity}
use Rattle.mime_tree.specs.Tree.{HasTree, has_high_block}

-- Octets with a tree of entities. Their last line may lack its CRLF.
pub record IsStored (octets : List ℕ) : Type 0 where
  pub entities : List Entity
  pub tree : HasTree octets entities

-- The mark of octets with these entities, a number of two bits: 1 where an octet above 127 stands in a header block of one of the entities, and 2 where
-- one stands anywhere (RFC 6532, 3; RFC 6152).
abbrev pub mark_in : List ℕ → List Entity → ℕ
mark_in octets entities = (if has_high_block octets entities then 1 else 0) + (if is_high octets then 2 else 0)

-- The octets have a tree, and this is their mark.
pub record HasMark (octets : List ℕ) (mark : ℕ) : Type 0 where
  pub entities : List Entity
  pub tree : HasTree octets entities
  pub mark_is : mark ≡ mark_in octets entities

-- The octets have a tree, and the mark that comes with them, where one does, is theirs.
abbrev pub IsStoredWith : Option ℕ → List ℕ → Type 0
IsStoredWith None octets = IsStored octets
IsStoredWith (Some mark) octets = HasMark octets mark
