use Rattle.encoded_words.proofs.AllUnits.{HasUnits-some, HasCommentUnits-some, HasPhraseUnits-some}
use Rattle.encoded_words.proofs.laws.units_are_there.Goals as goal

pub returns-clause-unstructured : goal.returns-clause-unstructured
returns-clause-unstructured c = HasUnits-some

pub returns-clause-comment : goal.returns-clause-comment
returns-clause-comment c = HasCommentUnits-some

pub returns-clause-phrase : goal.returns-clause-phrase
returns-clause-phrase c = HasPhraseUnits-some
