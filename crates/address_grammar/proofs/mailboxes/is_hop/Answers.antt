use Rattle.std.proofs.Common.{sym, ◌∙◌}
use Rattle.std.proofs.lemmas.Bool.{both_ways}
use Rattle.address_grammar.proofs.MailboxLemmas.{hop_parts, hop_made}
use Rattle.address_grammar.proofs.mailboxes.is_hop.Goals as goal

pub returns-then-are_blank : goal.returns-then-are_blank
returns-then-are_blank c = (
  λ t. hop_made _ _ _ c.in-Some.ensures.found (sym c.are_blank.ensures ∙ c.if-are_blank.true) (sym c.is_domain.ensures ∙ t),
  λ is. c.is_domain.ensures ∙ (hop_parts _ _ _ c.in-Some.ensures.found is).is_domain,
)

pub returns-else-are_blank : goal.returns-else-are_blank
returns-else-are_blank c = (
  λ t. absurd (both_ways _ c.if-are_blank.false t),
  λ is. c.are_blank.ensures ∙ (hop_parts _ _ _ c.in-Some.ensures.found is).nothing_before,
)
