use Rattle.std.proofs.Common.{length}
use Rattle.field_tokens.specs.Lexemes.{values_of}
use Rattle.imap_views.specs.Addresses.{plain_text}
use Rattle.imap_views.proofs.PhraseLemmas.{items_of, SaysOn}
use Rattle.imap_views.proofs.phrases.plain_phrase.Given as goal

abbrev pub invariant-loop-lexeme : goal.invariant-loop-lexeme
invariant-loop-lexeme l = SaysOn l.is_first l.has_space_before l.made (items_of (values_of l.rest)) (plain_text (values_of l.lexemes))

abbrev pub decreases-loop-lexeme : goal.decreases-loop-lexeme
decreases-loop-lexeme l = length (values_of l.rest)
