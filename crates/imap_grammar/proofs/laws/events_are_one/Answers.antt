use Rattle.imap_grammar.proofs.OneEvent.{one_event, one_first, first_stays}
use Rattle.imap_grammar.proofs.laws.events_are_one.Goals as goal

pub returns-clause-event : goal.returns-clause-event
returns-clause-event c = one_event

pub returns-clause-first : goal.returns-clause-first
returns-clause-first c = one_first

pub returns-clause-stays : goal.returns-clause-stays
returns-clause-stays c = first_stays
