use Rattle.std.proofs.Common.{length}
use Rattle.address_grammar.specs.AddressLists.{SaysPlace}
use Rattle.address_grammar.specs.private.ListViews.{element_values}
use Rattle.field_tokens.specs.Lexemes.{values_of}
use Rattle.address_grammar.proofs.DividedLemmas.{ReadsParts}
use Rattle.address_grammar.proofs.lists.read_elements.Given as goal

abbrev pub invariant-loop-place : goal.invariant-loop-place
invariant-loop-place l = ReadsParts SaysPlace (values_of l.lexemes) (element_values l.made.items) (values_of l.rest)

abbrev pub decreases-loop-place : goal.decreases-loop-place
decreases-loop-place l = length (values_of l.rest)
