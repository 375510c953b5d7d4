use Rattle.param_grammar.proofs.ReadLemmas.{not-SaysOctets-text}
use Rattle.param_grammar.proofs.contents.read_first.Goals as goal

pub returns-in_default-clause-none : goal.returns-in_default-clause-none
returns-in_default-clause-none c charset octets says = c.in_default.ensures.none charset says.0 says.1

pub returns-in_default-2-clause-none : goal.returns-in_default-2-clause-none
returns-in_default-2-clause-none c =
    not-SaysOctets-text c.args.content.now _ _ c.in-Some.ensures.found (rw (c.in_default-2.is) at c.in_ok-octets.ensures.none)
