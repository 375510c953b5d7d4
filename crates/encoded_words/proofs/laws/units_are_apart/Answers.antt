use Rattle.std.proofs.Common.{◌∷◌}
use Rattle.encoded_words.specs.Units.{raw_units}
use Rattle.encoded_words.specs.Words.{Text}
use Rattle.encoded_words.specs.CommentUnits.{comment_places}
use Rattle.encoded_words.proofs.WithText.{AreUnits-merged}
use Rattle.encoded_words.proofs.laws.units_are_apart.Goals as goal

pub returns-clause-unstructured : goal.returns-clause-unstructured
returns-clause-unstructured c text units has = AreUnits-merged (Text has.lead ∷ raw_units has.places) units has.says

pub returns-clause-comment : goal.returns-clause-comment
returns-clause-comment c text units has = AreUnits-merged (raw_units (comment_places has.words)) units has.says

pub returns-clause-phrase : goal.returns-clause-phrase
returns-clause-phrase c items units has = AreUnits-merged (raw_units has.places) units has.says
