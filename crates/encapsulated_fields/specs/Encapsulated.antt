-- Fields that keep the value of another field under a `Downgraded-` name (RFC 6857, 3.1).
use Rattle.std.specs.Prelude.{◌≡◌, ℕ, ◌<◌, true, List, ◌∷◌, ◌++◌, length, codes}
use Rattle.std.specs.List.{list_all}
use Rattle.mail_wire.specs.Characters.{space, colon}
use Rattle.mail_wire.specs.Octets.{is_white, is_field_name_octet}
use Rattle.mail_wire.specs.Lines.{crlf}
use Rattle.mail_wire.specs.Folds.{unfolded}
use Rattle.mail_wire.specs.Spans.{IsTrimmed}
use Rattle.encoded_words.specs.Words.{UnitValue}
use Rattle.encoded_words.specs.Units.{HasUnits}
use Rattle.encoded_words.specs.WrittenWords.{AreWordsOf}
use Rattle.encoded_words.specs.Folding.{made_body, word_pieces}

-- One or more octets that may stand in the name of a field (RFC 5322, 3.6.8).
abbrev pub IsFieldName : List ℕ → Type 0
IsFieldName name = (0 < length name) × (list_all is_field_name_octet name ≡ true)

-- A field's name with `Downgraded-` before it (RFC 6857, 3.1).
abbrev pub downgraded_name : List ℕ → List ℕ
downgraded_name name = codes "Downgraded-" ++ name

-- a field of this name with this body: the name, a colon, the body, CRLF
abbrev pub field_of : List ℕ → List ℕ → List ℕ
field_of name body = name ++ colon ∷ (body ++ crlf)

-- the field keeps the value of a field of this name as encoded words, each on a line of its own after a space
pub record Encapsulates (name value field : List ℕ) : Type 0 where
  pub words : List (List ℕ)
  pub are_words : AreWordsOf value words
  pub spelled : field ≡ field_of (downgraded_name name) (made_body (word_pieces space words))

-- a field of this name says these units: they are those of its body, unfolded and without white at its ends
pub record FieldSays (name field : List ℕ) (units : List UnitValue) : Type 0 where
  pub body : List ℕ
  pub text : List ℕ
  pub spelled : field ≡ field_of name body
  pub text_is : IsTrimmed is_white (unfolded body) text
  pub says : HasUnits text units
