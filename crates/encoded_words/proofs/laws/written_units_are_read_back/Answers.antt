use Rattle.encoded_words.proofs.WrittenUnits.{HasUnits-written, HasCommentUnits-written, HasPhraseUnits-written}
use Rattle.std.proofs.Common.{[], ◌∷◌, None, refl}
use Rattle.encoded_words.proofs.laws.written_units_are_read_back.Goals as goal

pub returns-clause-unstructured : goal.returns-clause-unstructured
returns-clause-unstructured c = HasUnits-written

pub returns-clause-comment : goal.returns-clause-comment
returns-clause-comment c = HasCommentUnits-written

pub returns-clause-phrase : goal.returns-clause-phrase
returns-clause-phrase c = HasPhraseUnits-written

pub returns-clause-no_units : goal.returns-clause-no_units
returns-clause-no_units c = record {
  places = record { word = []; says = None; run = [] } ∷ [];
  are_places = (record { word = refl; says = refl; run = refl }, tt);
  says = refl;
}
