use Rattle.encoded_words.proofs.Once.{HasUnits-once}
use Rattle.encoded_words.proofs.CommentLemmas.{HasCommentUnits-once}
use Rattle.encoded_words.proofs.PhraseLemmas.{HasPhraseUnits-once}
use Rattle.encoded_words.proofs.laws.units_are_one.Goals as goal

pub returns-clause-unstructured : goal.returns-clause-unstructured
returns-clause-unstructured c = HasUnits-once

pub returns-clause-comment : goal.returns-clause-comment
returns-clause-comment c = HasCommentUnits-once

pub returns-clause-phrase : goal.returns-clause-phrase
returns-clause-phrase c = HasPhraseUnits-once
