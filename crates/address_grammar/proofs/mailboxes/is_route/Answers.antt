use Rattle.field_tokens.specs.Lexemes.{values_of}
use Rattle.address_grammar.proofs.MailboxLemmas.{same_route, same_more, route_is, route_not}
use Rattle.address_grammar.proofs.mailboxes.is_route.Goals as goal

pub loop-hop-init : goal.loop-hop-init
loop-hop-init c = same_route (values_of c.args.lexemes)

pub returns-then-not-is_hop : goal.returns-then-not-is_hop
returns-then-not-is_hop c = route_not _ _ _ _ c.is_hop.result c.loop-hop.invariant c.in-Some.ensures.found c.if-not-is_hop.true c.is_hop.ensures.1

pub loop-hop-preserved : goal.loop-hop-preserved
loop-hop-preserved c = same_more _ _ _ _ c.loop-hop.invariant c.in-Some.ensures.found (c.is_hop.ensures.0 c.if-not-is_hop.false)

pub returns : goal.returns
returns c = route_is _ _ c.is_hop-2.result c.loop-hop.invariant c.in_default.ensures.none c.is_hop-2.ensures
