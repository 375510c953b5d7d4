use Rattle.std.proofs.Common.{sym, ◌∙◌}
use Rattle.address_grammar.proofs.phrases.is_phrase.Goals as goal

pub returns-then-not-are_blank : goal.returns-then-not-are_blank
returns-then-not-are_blank c = (
  λ t. record { some = sym c.are_blank.ensures ∙ c.if-not-are_blank.true; each = sym c.all_stand_in_phrase.ensures ∙ t },
  λ p. c.all_stand_in_phrase.ensures ∙ p.each,
)
