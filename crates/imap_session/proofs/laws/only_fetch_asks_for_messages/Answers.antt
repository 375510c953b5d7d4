use Rattle.imap_session.proofs.AnswerLaws.{enabled_unasked, fetch_asks, kept_unasked, others_unasked, refused_unasked}
use Rattle.imap_session.proofs.laws.only_fetch_asks_for_messages.Goals as goal

pub returns-clause-others : goal.returns-clause-others
returns-clause-others c = others_unasked

pub returns-clause-enabled : goal.returns-clause-enabled
returns-clause-enabled c = enabled_unasked

pub returns-clause-once : goal.returns-clause-once
returns-clause-once c = fetch_asks

pub returns-clause-beside : goal.returns-clause-beside
returns-clause-beside c = kept_unasked

pub returns-clause-refused : goal.returns-clause-refused
returns-clause-refused c = refused_unasked
