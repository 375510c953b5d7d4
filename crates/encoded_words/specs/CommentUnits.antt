-- The units of a comment's text, which is what stands between two parentheses (RFC 5322, 3.2.2; RFC 2047, 5, rule 2).
use Rattle.std.specs.Prelude.{◌≡◌, ℕ, ◌<◌, ◌==◌, Bool, true, false, not, List, [], ◌∷◌, ◌++◌, length, map, Option}
use Rattle.std.specs.List.{flat_map, list_all, list_any}
use Rattle.mail_wire.specs.Characters.{backslash}
use Rattle.mail_wire.specs.Octets.{is_white}
use Rattle.encoded_words.specs.Words.{UnitValue, SaysWhere}
use Rattle.encoded_words.specs.Units.{Place, raw_units, merged}

-- An octet by itself, or a quoted pair: a backslash and the octet that it quotes (RFC 5322, 3.2.1). Where that is the
-- first octet of a longer character, the others stand after it by themselves.
pub data TextItem : Type 0 where
  Plain : ℕ → TextItem
  Pair : ℕ → TextItem

-- A backslash stands by itself only at the text's end, where there is nothing that it could quote.
abbrev pub AreTextItems : List TextItem → Type 0
AreTextItems [] = Unit {0}
AreTextItems (Plain x ∷ items) = (x ≡ backslash → items ≡ []) × AreTextItems items
AreTextItems (Pair x ∷ items) = AreTextItems items

-- An octet as it is, or after a backslash where it is a quoted pair (RFC 5322, 3.2.1).
abbrev pub item_spelling : TextItem → List ℕ
item_spelling (Plain x) = x ∷ []
item_spelling (Pair x) = backslash ∷ x ∷ []

-- The octet that is meant, without the backslash of a quoted pair.
abbrev pub item_octet : TextItem → ℕ
item_octet (Plain x) = x
item_octet (Pair x) = x

-- A backslash stands there: the octet itself, or that of a quoted pair.
abbrev pub has_backslash : TextItem → Bool
has_backslash (Plain x) = x == backslash
has_backslash (Pair x) = true

-- white by itself; a quoted pair is never white
abbrev pub is_white_item : TextItem → Bool
is_white_item (Plain x) = is_white x
is_white_item (Pair x) = false

-- a word of a comment, what it says where it is an encoded word, and the run of white after it
pub record CommentWord : Type 0 where
  pub items : List TextItem
  pub says : Option UnitValue
  pub run : List TextItem

-- A word of a comment and the white after it.
abbrev pub word_items : CommentWord → List TextItem
word_items w = w.items ++ w.run

-- a word with a backslash is no encoded word
pub record IsCommentWord (w : CommentWord) : Type 0 where
  pub is_word : 0 < length w.items
  pub nonwhite : list_all (λ i. not (is_white_item i)) w.items ≡ true
  pub white : list_all is_white_item w.run ≡ true
  pub says : SaysWhere (not (list_any has_backslash w.items)) (map item_octet w.items) w.says

-- Words are the longest runs of items that are not white, so white stands between any two.
abbrev pub ItemsDivide : List TextItem → List CommentWord → Type 0
ItemsDivide run [] = Unit {0}
ItemsDivide run (w ∷ ws) = 0 < length run

-- The words of a comment's text: each is one, and white stands between any two.
abbrev pub AreCommentWords : List CommentWord → Type 0
AreCommentWords [] = Unit {0}
AreCommentWords (w ∷ ws) = IsCommentWord w × ItemsDivide w.run ws × AreCommentWords ws

-- A word of a comment with this white after it, by the octets that are meant.
abbrev pub comment_place : CommentWord → List TextItem → Place
comment_place w run = record { word = map item_octet w.items; says = w.says; run = map item_octet run }

-- the places of words: the white at the text's end, after the last word, is left out
abbrev pub comment_places : List CommentWord → List Place
comment_places [] = []
comment_places (w ∷ []) = comment_place w [] ∷ []
comment_places (w ∷ v ∷ ws) = comment_place w w.run ∷ comment_places (v ∷ ws)

-- the text is a run of white, maybe empty, and words, and these are the units of the words
pub record HasCommentUnits (text : List ℕ) (units : List UnitValue) : Type 0 where
  pub lead : List TextItem
  pub words : List CommentWord
  pub white : list_all is_white_item lead ≡ true
  pub are_words : AreCommentWords words
  pub are_items : AreTextItems (lead ++ flat_map word_items words)
  pub whole : text ≡ flat_map item_spelling (lead ++ flat_map word_items words)
  pub says : units ≡ merged (raw_units (comment_places words))
