use Rattle.std.proofs.lemmas.Bool.{both_ways}
use Rattle.address_grammar.proofs.MailboxLemmas.{routed_parts, unrouted}
use Rattle.address_grammar.proofs.mailboxes.read_routed.Goals as goal

pub returns-then-is_route-clause-malformed : goal.returns-then-is_route-clause-malformed
returns-then-is_route-clause-malformed c = λ e address is. c.read_address.ensures.malformed e address (routed_parts _ _ _ address c.in-Some.ensures.found is).1

pub returns-else-is_route-clause-malformed : goal.returns-else-is_route-clause-malformed
returns-else-is_route-clause-malformed c = λ _ address is. both_ways _ c.if-is_route.false (c.is_route.ensures.1 (routed_parts _ _ _ address c.in-Some.ensures.found is).0)

pub returns-in-None-clause-malformed : goal.returns-in-None-clause-malformed
returns-in-None-clause-malformed c = λ e address is. c.read_address-in-None.ensures.malformed e address (unrouted _ address c.in-None.ensures.none is)
