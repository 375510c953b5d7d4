-- Fields chosen by their names (RFC 3501, 6.4.5, HEADER.FIELDS and HEADER.FIELDS.NOT).
use Rattle.std.specs.Prelude.{◌≡◌, ℕ, Bool, not, if◌then◌else◌, List, ◌++◌, filter}
use Rattle.std.specs.List.{flat_map, list_any}
use Rattle.mail_wire.specs.Lines.{crlf}
use Rattle.mail_wire.specs.Octets.{same_name}
use Rattle.utf8_fields.specs.declared.block.Field.{Field}
use Rattle.utf8_fields.specs.Block.{HasBlock, raw_of, name_of}

-- one of the names is this one, whatever the case
abbrev pub is_among : List (List ℕ) → List ℕ → Bool
is_among names name = list_any (same_name name) names

-- fields of these names, or all others
abbrev pub is_chosen : List (List ℕ) → Bool → List ℕ → Bool
is_chosen names negated name = if negated then not (is_among names name) else is_among names name

-- The header's fields that are chosen, raw and in their order, and an empty line.
pub record AreChosen (header : List ℕ) (names : List (List ℕ)) (negated : Bool) (text : List ℕ) : Type 0 where
  pub fields : List Field
  pub end : ℕ
  pub has_block : HasBlock header fields end
  pub text_is : text ≡ flat_map (raw_of header) (filter (λ field. is_chosen names negated (name_of header field)) fields) ++ crlf
