-- How the reader takes the text of a comment.
use Rattle.std.specs.Prelude.{◌≡◌, ℕ, Bool, true, ◌&&◌, not, if◌then◌else◌, List, [], ◌∷◌, ◌++◌, map, Option, is_some}
use Rattle.std.specs.List.{flat_map, list_all, list_any}
use Rattle.mail_wire.specs.Octets.{is_white, is_nonwhite}
use Rattle.mail_wire.specs.Spans.{Stops, IsSpan}
use Rattle.encoded_words.specs.declared.units.Merging.{Merging}
use Rattle.encoded_words.specs.Words.{UnitValue, SaysWhere}
use Rattle.encoded_words.specs.Units.{with_text, word_unit}
use Rattle.encoded_words.specs.CommentUnits.{TextItem, AreTextItems, item_spelling, item_octet, has_backslash, is_white_item}
use Rattle.encoded_words.specs.private.Merging.{all_units_then, onto}

-- the text begins with items, rest follows them, and whatever items rest has, they go on with it
pub record BeginsItems (text : List ℕ) (items : List TextItem) (rest : List ℕ) : Type 0 where
  pub whole : text ≡ flat_map item_spelling items ++ rest
  pub onward : (more : List TextItem) → AreTextItems more → rest ≡ flat_map item_spelling more → AreTextItems (items ++ more)

-- an item that gives this octet comes first
pub record BeginsOctetItem (text : List ℕ) (octet : ℕ) (rest : List ℕ) : Type 0 where
  pub item : TextItem
  pub begins : BeginsItems text (item ∷ []) rest
  pub octet_is : octet ≡ item_octet item

-- an item comes first that isn't white
pub record BeginsNonwhite (text rest : List ℕ) : Type 0 where
  pub item : TextItem
  pub begins : BeginsItems text (item ∷ []) rest
  pub nonwhite : not (is_white_item item) ≡ true

-- the word is the longest front of items that aren't white, and after follows it
pub record SplitsWord (text word after : List ℕ) : Type 0 where
  pub items : List TextItem
  pub begins : BeginsItems text items after
  pub spelled : word ≡ flat_map item_spelling items
  pub nonwhite : list_all (λ i. not (is_white_item i)) items ≡ true
  pub stops : Stops is_nonwhite after

-- the text is spelled by items that give these octets
pub record GivesOctets (text octets : List ℕ) : Type 0 where
  pub items : List TextItem
  pub are : AreTextItems items
  pub spelled : text ≡ flat_map item_spelling items
  pub octets_are : octets ≡ map item_octet items

-- a word was taken, and the run of white before it: it is an encoded word or not
pub record TakesCommentWord (old new : Merging) (run : List ℕ) (after_encoded : Bool) (word : List ℕ) (encoded : Bool) : Type 0 where
  pub items : List TextItem
  pub are : AreTextItems items
  pub spelled : word ≡ flat_map item_spelling items
  pub says : Option UnitValue
  pub says_is : SaysWhere (not (list_any has_backslash items)) (map item_octet items) says
  pub encoded_is : encoded ≡ is_some says
  pub units : (us : List UnitValue) → all_units_then new us
      ≡ all_units_then old (with_text (if after_encoded && encoded then [] else run) (onto (word_unit says (map item_octet items)) us))

-- the first word of the rest was taken, and the run before it, and after it stand another run and what is left
pub record TakesFirst (old new : Merging) (run : List ℕ) (after_encoded : Bool) (rest next_run : List ℕ) (encoded : Bool) (next_rest : List ℕ) : Type 0 where
  pub word : List ℕ
  pub after : List ℕ
  pub splits : SplitsWord rest word after
  pub white : IsSpan is_white after next_run next_rest
  pub takes : TakesCommentWord old new run after_encoded word encoded
