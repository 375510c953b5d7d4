use Rattle.std.proofs.Common.{length}
use Rattle.field_tokens.specs.Lexemes.{values_of}
use Rattle.encoded_words.specs.Folding.{AddsLines}
use Rattle.address_lists.proofs.PhraseListLemmas.{WritesPhrases}
use Rattle.address_lists.proofs.phrase_lists.write_phrases.Given as goal

abbrev pub invariant-loop-place : goal.invariant-loop-place
invariant-loop-place l = AddsLines (λ pieces. WritesPhrases (values_of l.lexemes) pieces (values_of l.rest)) l.fn.made l.made

abbrev pub decreases-loop-place : goal.decreases-loop-place
decreases-loop-place l = length (values_of l.rest)
