-- The units of a text. Each context has places of its own, and from them the units are made in one way. Here stand the
-- places of an unstructured text (RFC 2047, 5, rule 1).
use Rattle.std.specs.Prelude.{◌≡◌, ℕ, ◌<◌, Bool, true, false, ◌&&◌, if◌then◌else◌, List, [], ◌∷◌, ◌++◌, length, Option, Some, None, is_some}
use Rattle.std.specs.List.{flat_map, list_all}
use Rattle.mail_wire.specs.Octets.{is_white, is_nonwhite}
use Rattle.encoded_words.specs.Words.{UnitValue, Text, Opaque, Says}

-- a word of a text, what it says where it is an encoded word, and the run of white after it
pub record Place : Type 0 where
  pub word : List ℕ
  pub says : Option UnitValue
  pub run : List ℕ

-- A word and the white after it.
abbrev pub place_octets : Place → List ℕ
place_octets p = p.word ++ p.run

-- A word of one or more octets that aren't white, what it says as an encoded word, if it is one, and a run of white.
pub record IsPlace (p : Place) : Type 0 where
  pub is_word : 0 < length p.word
  pub nonwhite : list_all is_nonwhite p.word ≡ true
  pub white : list_all is_white p.run ≡ true
  pub says : Says p.word p.says

-- Words are the longest runs of octets that are not white, so white stands between any two.
abbrev pub Divides : List ℕ → List Place → Type 0
Divides run [] = Unit {0}
Divides run (p ∷ ps) = 0 < length run

-- The words of a text: each is one, and white stands between any two.
abbrev pub ArePlaces : List Place → Type 0
ArePlaces [] = Unit {0}
ArePlaces (p ∷ ps) = IsPlace p × Divides p.run ps × ArePlaces ps

-- What an encoded word says, or else the word as text.
abbrev pub word_unit : Option UnitValue → List ℕ → UnitValue
word_unit (Some unit) word = unit
word_unit None word = Text word

-- whether the first place has an encoded word
abbrev pub begins_encoded : List Place → Bool
begins_encoded [] = false
begins_encoded (p ∷ ps) = is_some p.says

-- A run between two encoded words gives nothing, and every other run gives itself (RFC 2047, 6.2).
abbrev pub run_text : Place → Bool → List ℕ
run_text p next_encoded = if is_some p.says && next_encoded then [] else p.run

-- what each word and each run gives
abbrev pub raw_units : List Place → List UnitValue
raw_units [] = []
raw_units (p ∷ ps) = word_unit p.says p.word ∷ Text (run_text p (begins_encoded ps)) ∷ raw_units ps

-- a text before units: text that touches text is one, and an empty one vanishes
abbrev pub with_text : List ℕ → List UnitValue → List UnitValue
with_text [] us = us
with_text (b ∷ bs) [] = Text (b ∷ bs) ∷ []
with_text (b ∷ bs) (Text more ∷ us) = Text ((b ∷ bs) ++ more) ∷ us
with_text (b ∷ bs) (Opaque charset octets source ∷ us) = Text (b ∷ bs) ∷ Opaque charset octets source ∷ us

-- The units with texts that touch joined to one, and without empty ones.
abbrev pub merged : List UnitValue → List UnitValue
merged [] = []
merged (Text bs ∷ us) = with_text bs (merged us)
merged (Opaque charset octets source ∷ us) = Opaque charset octets source ∷ merged us

-- the text is a run of white, maybe empty, and places, and these are the units of all of it
pub record HasUnits (text : List ℕ) (units : List UnitValue) : Type 0 where
  pub lead : List ℕ
  pub places : List Place
  pub white : list_all is_white lead ≡ true
  pub are_places : ArePlaces places
  pub whole : text ≡ lead ++ flat_map place_octets places
  pub says : units ≡ merged (Text lead ∷ raw_units places)
