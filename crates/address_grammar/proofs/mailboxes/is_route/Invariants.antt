use Rattle.std.proofs.Common.{length}
use Rattle.field_tokens.specs.Lexemes.{values_of}
use Rattle.address_grammar.proofs.MailboxLemmas.{SameRoute}
use Rattle.address_grammar.proofs.mailboxes.is_route.Given as goal

abbrev pub invariant-loop-hop : goal.invariant-loop-hop
invariant-loop-hop l = SameRoute (values_of l.lexemes) (values_of l.rest)

abbrev pub decreases-loop-hop : goal.decreases-loop-hop
decreases-loop-hop l = length (values_of l.rest)
