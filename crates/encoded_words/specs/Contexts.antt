-- The units of a text, by where it stands (RFC 2047, 5).
use Rattle.std.specs.Prelude.{ℕ, List}
use Rattle.encoded_words.specs.declared.Context.{Context}
use Rattle.encoded_words.specs.declared.Context.TheVariants.{Unstructured, Comment}
use Rattle.encoded_words.specs.Words.{UnitValue}
use Rattle.encoded_words.specs.Units.{HasUnits}
use Rattle.encoded_words.specs.CommentUnits.{HasCommentUnits}

-- in this context these are the units of all of the text
abbrev pub HasUnitsIn : Context → List ℕ → List UnitValue → Type 0
HasUnitsIn Unstructured text units = HasUnits text units
HasUnitsIn Comment text units = HasCommentUnits text units
