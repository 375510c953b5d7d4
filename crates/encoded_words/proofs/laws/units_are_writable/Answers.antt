use Rattle.encoded_words.proofs.WritableUnits.{HasUnits-writable, HasCommentUnits-writable, HasPhraseUnits-writable}
use Rattle.encoded_words.proofs.laws.units_are_writable.Goals as goal

pub returns-clause-unstructured : goal.returns-clause-unstructured
returns-clause-unstructured c = HasUnits-writable

pub returns-clause-comment : goal.returns-clause-comment
returns-clause-comment c = HasCommentUnits-writable

pub returns-clause-phrase : goal.returns-clause-phrase
returns-clause-phrase c = HasPhraseUnits-writable
