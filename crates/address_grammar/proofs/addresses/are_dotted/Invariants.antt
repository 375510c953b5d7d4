use Rattle.std.proofs.Common.{◌≡◌, length}
use Rattle.address_grammar.specs.private.Lexemes.{is_part, are_dotted}
use Rattle.field_tokens.specs.Lexemes.{values_of}
use Rattle.address_grammar.proofs.DottedLemmas.{dotted_after}
use Rattle.field_tokens.specs.Squeezed.{words_of}
use Rattle.address_grammar.proofs.addresses.are_dotted.Given as goal

abbrev pub invariant-loop-following : goal.invariant-loop-following
invariant-loop-following l = are_dotted (is_part l.allows_quoted) (words_of (values_of l.lexemes)) ≡ dotted_after (is_part l.allows_quoted) (words_of (values_of l.rest))

abbrev pub decreases-loop-following : goal.decreases-loop-following
decreases-loop-following l = length (values_of l.rest)
