use Rattle.std.proofs.Common.{◌≡◌, true, [], length}
use Rattle.std.specs.List.{list_all}
use Rattle.field_tokens.specs.Lexemes.{values_of}
use Rattle.address_grammar.specs.Phrases.{may_stand_in_phrase, phrase_items}
use Rattle.address_grammar.specs.private.PhraseSteps.{ReadsPhraseOn}
use Rattle.address_grammar.proofs.phrases.read_phrase.Given as goal

abbrev pub invariant-loop-lexeme : goal.invariant-loop-lexeme
invariant-loop-lexeme l = (list_all may_stand_in_phrase (values_of l.rest) ≡ true) × ReadsPhraseOn (phrase_items (values_of l.lexemes)) [] l.reader (phrase_items (values_of l.rest))

abbrev pub decreases-loop-lexeme : goal.decreases-loop-lexeme
decreases-loop-lexeme l = length (values_of l.rest)
