-- How units are written: each text as its encoded words, each opaque unit as the word that it came from.
use Rattle.std.specs.Prelude.{◌≡◌, ℕ, ◌==◌, Bool, not, List, [], ◌∷◌, ◌++◌, IsUtf8}
use Rattle.std.specs.List.{AllByRecursion, list_all}
use Rattle.mail_wire.specs.Characters.{backslash}
use Rattle.encoded_words.specs.Words.{UnitValue, Text, Opaque, IsEncodedWord}
use Rattle.encoded_words.specs.Units.{merged}
use Rattle.encoded_words.specs.CommentUnits.{HasCommentUnits}
use Rattle.encoded_words.specs.WrittenWords.{AreWordsOf}

-- the pieces of one unit
abbrev pub WritesUnit : UnitValue → List (List ℕ) → Type 0
WritesUnit (Text octets) pieces = AreWordsOf octets pieces
WritesUnit (Opaque charset octets source) pieces = pieces ≡ source ∷ []

-- the pieces of units, one after the other
abbrev pub WriteAll : List UnitValue → List (List ℕ) → Type 0
WriteAll [] pieces = pieces ≡ []
WriteAll (u ∷ us) pieces = (first : List (List ℕ)) × (more : List (List ℕ)) × (pieces ≡ first ++ more) × WritesUnit u first × WriteAll us more

-- the pieces of a comment's text
abbrev pub WritesCommentText : List ℕ → List (List ℕ) → Type 0
WritesCommentText text pieces = (units : List UnitValue) × HasCommentUnits text units × WriteAll units pieces

-- text touches no text, and none is empty
abbrev pub AreUnits : List UnitValue → Type 0
AreUnits us = merged us ≡ us

-- A text that is UTF-8 can be written. An opaque unit can, as it comes from an encoded word that says it.
abbrev pub IsWritable : UnitValue → Type 0
IsWritable (Text octets) = IsUtf8 octets
IsWritable (Opaque charset octets source) = IsEncodedWord source (Opaque charset octets source)

-- Each of the units can be written.
abbrev pub AreWritable : List UnitValue → Type 0
AreWritable us = AllByRecursion IsWritable us

-- no octet quotes another, so a comment can hold the octets as they are
abbrev pub has_no_backslash : List ℕ → Bool
has_no_backslash octets = list_all (λ x. not (x == backslash)) octets
