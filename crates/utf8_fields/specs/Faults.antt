-- The first faulty line of a header block: it is no line of a field, or no UTF-8 (RFC 3629, 4).
use Rattle.std.specs.Prelude.{◌≡◌, ◌≢◌, ℕ, ◌+◌, ◌<◌, ◌⊎◌, List, ◌∷◌, ◌++◌, length, IsUtf8}
use Rattle.std.specs.Str.Lossy.{utf8_valid_len}
use Rattle.mail_wire.specs.Lines.{crlf, lines_of}
use Rattle.mail_wire.specs.Message.{IsSound}
use Rattle.utf8_fields.specs.declared.block.Field.{Field}
use Rattle.utf8_fields.specs.declared.block.FieldFault.{FieldFault}
use Rattle.utf8_fields.specs.declared.block.FieldFault.TheVariants.{NotField, NotUtf8, Memory}
use Rattle.utf8_fields.specs.Lines.{BeginsField, BeginsWhite}
use Rattle.utf8_fields.specs.Block.{AreFields}

-- After these fields the line begins a field, or goes on with the last one. It has no NUL, and CR and LF only as CRLF.
pub record IsFieldLine (fields : List Field) (line : List ℕ) : Type 0 where
  pub sound : IsSound line
  pub kind : ((name : List ℕ) × BeginsField name line) ⊎ ((0 < length fields) × BeginsWhite line)

-- After the lines of these fields, all without a fault, this line stands at `at`, and the block doesn't end there.
pub record ComesAfter (lines : List (List ℕ)) (start : ℕ) (fields : List Field) (at : ℕ) (line : List ℕ) : Type 0 where
  pub before : List (List ℕ)
  pub after : List (List ℕ)
  pub split : lines ≡ before ++ line ∷ after
  pub fields_are : AreFields before start fields at
  pub goes_on : line ≢ crlf

-- The answer tells the first faulty one of these lines, which begin at `start`: where it stands, if it is no field line,
-- and else where its first octet stands that is no well-formed UTF-8.
abbrev pub IsFaultIn : List (List ℕ) → ℕ → FieldFault → Type 0
IsFaultIn lines start (NotField at) = (fields : List Field) × (line : List ℕ) × ComesAfter lines start fields at line × ¬ IsFieldLine fields line
IsFaultIn lines start (NotUtf8 place) =
    (fields : List Field) × (at : ℕ) × (line : List ℕ) × ComesAfter lines start fields at line × IsFieldLine fields line
    × ¬ IsUtf8 line × (place ≡ at + utf8_valid_len line)
IsFaultIn lines start Memory = Unit {0}

-- the answer tells the first faulty line of the block
abbrev pub IsFault : List ℕ → FieldFault → Type 0
IsFault octets fault = IsFaultIn (lines_of octets) 0 fault
