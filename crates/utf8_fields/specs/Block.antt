-- The header block of octets (RFC 5322, 2.1): lines of fields, and then an empty line or nothing.
use Rattle.std.specs.Prelude.{◌≡◌, ℕ, ◌+◌, List, [], ◌∷◌, ◌++◌, length, take, IsUtf8, slice_range}
use Rattle.std.specs.List.{All, concat}
use Rattle.mail_wire.specs.Lines.{crlf, lines_of}
use Rattle.mail_wire.specs.Message.{IsSound}
use Rattle.utf8_fields.specs.declared.block.Field.{Field}
use Rattle.utf8_fields.specs.Lines.{BeginsField, BeginsWhite}

-- These are the lines of the field, which stands at this place: one that begins it and further ones, all UTF-8,
-- without NUL, and with CR and LF only as CRLF.
pub record IsFieldAt (at : ℕ) (field : Field) (first : List ℕ) (more : List (List ℕ)) : Type 0 where
  pub name_at : field.name.at ≡ at
  pub raw_at : field.raw.at ≡ at
  pub raw_len : field.raw.len ≡ length (concat (first ∷ more))
  pub begins : BeginsField (take field.name.len first) first
  pub further : All BeginsWhite more
  pub sound : All IsSound (first ∷ more)
  pub utf8 : All IsUtf8 (first ∷ more)

-- the raw octets of a field
abbrev pub raw_of : List ℕ → Field → List ℕ
raw_of octets field = slice_range octets field.raw.at (field.raw.at + field.raw.len)

-- the octets of a field's name
abbrev pub name_of : List ℕ → Field → List ℕ
name_of octets field = slice_range octets field.name.at (field.name.at + field.name.len)

-- nothing or an empty line comes first
abbrev pub EndsBlock : List (List ℕ) → Type 0
EndsBlock [] = Unit {0}
EndsBlock (line ∷ lines) = line ≡ crlf

-- These lines, the first of which stands at `at`, are those of the fields, up to `end`.
abbrev pub AreFields : List (List ℕ) → ℕ → List Field → ℕ → Type 0
AreFields lines at [] end = (lines ≡ []) × (at ≡ end)
AreFields lines at (field ∷ fields) end =
    (first : List ℕ) × (more : List (List ℕ)) × (rest : List (List ℕ)) × (lines ≡ (first ∷ more) ++ rest) × IsFieldAt at field first more
    × AreFields rest (at + field.raw.len) fields end

-- These lines, the first of which stands at `start`, begin with this block: the lines of its fields come first, up to `end`, and then nothing or an empty line.
pub record HasBlockIn (all : List (List ℕ)) (start : ℕ) (fields : List Field) (end : ℕ) : Type 0 where
  pub header : List (List ℕ)
  pub rest : List (List ℕ)
  pub lines : all ≡ header ++ rest
  pub fields_are : AreFields header start fields end
  pub ends : EndsBlock rest

-- the octets have this block
abbrev pub HasBlock : List ℕ → List Field → ℕ → Type 0
HasBlock octets fields end = HasBlockIn (lines_of octets) 0 fields end
