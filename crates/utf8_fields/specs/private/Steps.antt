-- What the steps of reading a field and its value answer.
use Rattle.std.specs.Prelude.{◌≡◌, ◌⊎◌, ℕ, ◌+◌, ◌<◌, ◌≤◌, true, List, [], ◌∷◌, ◌++◌, length, drop, IsUtf8}
use Rattle.std.specs.List.{All, concat, list_all}
use Rattle.std.specs.Str.Lossy.{utf8_valid_len}
use Rattle.mail_wire.specs.Lines.{lines_of}
use Rattle.mail_wire.specs.Message.{IsSound}
use Rattle.mail_wire.specs.Octets.{is_white}
use Rattle.mail_wire.specs.Spans.{StopsAfter}
use Rattle.utf8_fields.specs.declared.block.FieldFault.{FieldFault}
use Rattle.utf8_fields.specs.declared.block.FieldFault.TheVariants.{NotField, NotUtf8}
use Rattle.utf8_fields.specs.declared.block.Field.{Field}
use Rattle.utf8_fields.specs.Lines.{BeginsWhite}
use Rattle.utf8_fields.specs.Block.{IsFieldAt, AreFields}

-- a colon comes first
abbrev pub BeginsColon : List ℕ → Type 0
BeginsColon [] = ⊥
BeginsColon (x ∷ rest) = x ≡ 58

-- the line, which stands at this place, isn't sound, or is sound and no UTF-8, and the answer tells where
abbrev pub IsBadLine : ℕ → List ℕ → FieldFault → Type 0
IsBadLine at line fault =
    (¬ IsSound line × (fault ≡ NotField at)) ⊎ (IsSound line × ¬ IsUtf8 line × (fault ≡ NotUtf8 (at + utf8_valid_len line)))

-- the first of these lines, if there is one, doesn't go on with a field
abbrev pub EndsField : List (List ℕ) → Type 0
EndsField [] = Unit {0}
EndsField (line ∷ lines) = ¬ BeginsWhite line

-- The first `len` octets are further lines of a field, all sound and UTF-8.
pub record AreFurther (octets : List ℕ) (len : ℕ) : Type 0 where
  pub more : List (List ℕ)
  pub lines : lines_of octets ≡ more ++ lines_of (drop len octets)
  pub len_is : len ≡ length (concat more)
  pub white : All BeginsWhite more
  pub sound : All IsSound more
  pub utf8 : All IsUtf8 more
  pub fits : len ≤ length octets

-- Among the further lines one isn't sound or no UTF-8, and the answer tells the first.
pub record IsBadFurther (octets : List ℕ) (at : ℕ) (fault : FieldFault) : Type 0 where
  pub more : List (List ℕ)
  pub line : List ℕ
  pub after : List (List ℕ)
  pub lines : lines_of octets ≡ more ++ line ∷ after
  pub white : All BeginsWhite more
  pub sound : All IsSound more
  pub utf8 : All IsUtf8 more
  pub begins : BeginsWhite line
  pub bad : IsBadLine (at + length (concat more)) line fault

-- A field stands at `at`, and no line after it goes on with it.
pub record IsNextField (octets : List ℕ) (at : ℕ) (field : Field) : Type 0 where
  pub first : List ℕ
  pub more : List (List ℕ)
  pub lines : lines_of (drop at octets) ≡ (first ∷ more) ++ lines_of (drop (at + field.raw.len) octets)
  pub is_field : IsFieldAt at field first more
  pub ends : EndsField (lines_of (drop (at + field.raw.len) octets))
  pub fits : at + field.raw.len ≤ length octets

-- These fields stand from `start` up to `at`, and no line there goes on with the last one.
pub record HasReadFields (octets : List ℕ) (start : ℕ) (fields : List Field) (at : ℕ) : Type 0 where
  pub before : List (List ℕ)
  pub lines : lines_of (drop start octets) ≡ before ++ lines_of (drop at octets)
  pub fields_are : AreFields before start fields at
  pub ends : 0 < length fields → EndsField (lines_of (drop at octets))
  pub fits : at ≤ length octets

-- the octets without the white at their end
pub record TrimsEnd (octets trimmed : List ℕ) : Type 0 where
  pub trail : List ℕ
  pub white : list_all is_white trail ≡ true
  pub whole : octets ≡ trimmed ++ trail
  pub ends : StopsAfter is_white trimmed
