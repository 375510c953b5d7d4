-- The units that the reader has made so far.
use Rattle.std.specs.Prelude.{◌≡◌, ℕ, List, [], ◌∷◌, ◌++◌, map, Bool, ◌&&◌, Option, is_some, if◌then◌else◌}
use Rattle.encoded_words.specs.declared.units.Merging.{Merging}
use Rattle.encoded_words.specs.Words.{UnitValue, Text, Opaque, Says}
use Rattle.encoded_words.specs.private.Values.{value_of}
use Rattle.encoded_words.specs.Units.{with_text, word_unit}

abbrev pub done_values : Merging → List UnitValue
done_values m = map value_of m.done.items

-- these units are done, and this text may go on
pub record IsMerging (m : Merging) (done : List UnitValue) (text : List ℕ) : Type 0 where
  pub done_is : done_values m ≡ done
  pub text_is : m.text.items ≡ text

-- what a unit makes of those before it
abbrev pub AddsUnit : Merging → Merging → UnitValue → Type 0
AddsUnit old new (Text octets) = IsMerging new (done_values old) (old.text.items ++ octets)
AddsUnit old new (Opaque charset octets source) = IsMerging new (done_values old ++ with_text old.text.items [] ++ Opaque charset octets source ∷ []) []

-- all units, where these follow
abbrev pub all_units_then : Merging → List UnitValue → List UnitValue
all_units_then m us = done_values m ++ with_text m.text.items us

-- a unit before units
abbrev pub onto : UnitValue → List UnitValue → List UnitValue
onto (Text octets) us = with_text octets us
onto (Opaque charset octets source) us = Opaque charset octets source ∷ us

-- a word was taken, and the run before it: it is an encoded word or not
pub record TakesWord (old new : Merging) (run : List ℕ) (after_encoded : Bool) (word : List ℕ) (encoded : Bool) : Type 0 where
  pub says : Option UnitValue
  pub says_is : Says word says
  pub encoded_is : encoded ≡ is_some says
  pub units : (us : List UnitValue) → all_units_then new us
      ≡ all_units_then old (with_text (if after_encoded && encoded then [] else run) (onto (word_unit says word) us))
