use Rattle.pop_session.proofs.AskedLemmas.{sizes_asked, named_asked, octets_asked}
use Rattle.pop_session.proofs.laws.legacy_sizes_and_messages_are_asked_for.Goals as goal

pub returns-clause-sizes : goal.returns-clause-sizes
returns-clause-sizes c = sizes_asked

pub returns-clause-named : goal.returns-clause-named
returns-clause-named c = named_asked

pub returns-clause-octets : goal.returns-clause-octets
returns-clause-octets c = octets_asked
