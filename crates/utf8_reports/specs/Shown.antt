-- The header block that a report returns (RFC 6522, 4; RFC 6533, 4).
use Rattle.std.specs.Prelude.{◌≡◌, ℕ, Bool, true, false, List, take}
use Rattle.utf8_fields.specs.declared.block.Field.{Field}
use Rattle.utf8_fields.specs.Block.{HasBlock}
use Rattle.mime_tree.specs.declared.entity.Entity.{Entity}
use Rattle.mime_tree.specs.Completing.{IsCompleted}
use Rattle.mime_tree.specs.Tree.{HasTree}
use Rattle.surrogate_rope.specs.Layout.{HasSurrogate}

-- the octets' header block, of which the last line is ended
pub record HasEndedHeader (octets header : List ℕ) : Type 0 where
  pub fields : List Field
  pub end : ℕ
  pub has_block : HasBlock octets fields end
  pub completed : IsCompleted (take end octets) header

-- A report in UTF-8 shows the message, and one in ASCII its surrogate.
abbrev pub Shows : Bool → List ℕ → List ℕ → Type 0
Shows true msg shown = shown ≡ msg
Shows false msg shown = HasSurrogate msg shown

-- the header of what such a report shows of the message
pub record IsShownHeader (global : Bool) (msg header : List ℕ) : Type 0 where
  pub entities : List Entity
  pub tree : HasTree msg entities
  pub shown : List ℕ
  pub shows : Shows global msg shown
  pub has_header : HasEndedHeader shown header
