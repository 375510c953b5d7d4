-- The fields of a header block (RFC 5322, 2.2).
use Rattle.std.specs.Prelude.{◌≡◌, ℕ, List, map}
use Rattle.utf8_fields.specs.declared.block.Field.{Field}
use Rattle.utf8_fields.specs.Block.{HasBlock, raw_of}

-- the header has a block
pub record HasSomeBlock (header : List ℕ) : Type 0 where
  pub fields : List Field
  pub end : ℕ
  pub has_block : HasBlock header fields end

-- the header has a block with these raw fields
pub record HasRaws (header : List ℕ) (raws : List (List ℕ)) : Type 0 where
  pub fields : List Field
  pub end : ℕ
  pub has_block : HasBlock header fields end
  pub raws_are : raws ≡ map (raw_of header) fields
