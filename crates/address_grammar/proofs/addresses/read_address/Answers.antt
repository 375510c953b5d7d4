use Rattle.std.proofs.Common.{sym, ◌∙◌}
use Rattle.std.proofs.lemmas.Bool.{both_ways}
use Rattle.address_grammar.proofs.AddressLemmas.{address_parts, address_missing}
use Rattle.address_grammar.proofs.addresses.read_address.Goals as goal

pub returns-in_default-clause-malformed : goal.returns-in_default-clause-malformed
returns-in_default-clause-malformed c = λ _ address. address_missing _ address c.in_default.ensures.none

pub returns-then-not-are_dotted-clause-malformed : goal.returns-then-not-are_dotted-clause-malformed
returns-then-not-are_dotted-clause-malformed c = λ _ address is.
    both_ways _ (sym c.are_dotted.ensures ∙ c.if-not-are_dotted.true) (address_parts _ _ _ address c.in-Some.ensures.found is).0

pub returns-then-not-is_domain-clause-malformed : goal.returns-then-not-is_domain-clause-malformed
returns-then-not-is_domain-clause-malformed c = λ _ address is.
    both_ways _ (sym c.is_domain.ensures ∙ c.if-not-is_domain.true) (address_parts _ _ _ address c.in-Some.ensures.found is).1
