use Rattle.std.proofs.Common.{sym, ◌∙◌}
use Rattle.std.proofs.lemmas.Bool.{both_ways}
use Rattle.field_tokens.specs.Lexemes.{values_of}
use Rattle.address_grammar.proofs.MailboxLemmas.{some_phrase, no_phrase, nothing_says}
use Rattle.address_grammar.proofs.mailboxes.has_phrase.Goals as goal

pub returns-then-are_blank-clause-some : goal.returns-then-are_blank-clause-some
returns-then-are_blank-clause-some c = no_phrase (values_of c.args.lexemes) (sym c.are_blank.ensures ∙ c.if-are_blank.true)

pub returns-then-is_phrase-clause-some : goal.returns-then-is_phrase-clause-some
returns-then-is_phrase-clause-some c = some_phrase _ (c.is_phrase.ensures.0 c.if-is_phrase.true)

pub returns-else-is_phrase-clause-none : goal.returns-else-is_phrase-clause-none
returns-else-is_phrase-clause-none c = nothing_says (values_of c.args.lexemes) (sym c.are_blank.ensures ∙ c.if-are_blank.false) (λ is. both_ways _ c.if-is_phrase.false (c.is_phrase.ensures.1 is))
