use Rattle.smtp_session.proofs.TakenLemmas.{data_accepted, data_begin, sent_kept}
use Rattle.smtp_session.proofs.laws.whole_data_are_taken.Goals as goal

pub returns-clause-begun : goal.returns-clause-begun
returns-clause-begun c = data_begin

pub returns-clause-accepted : goal.returns-clause-accepted
returns-clause-accepted c = data_accepted

pub returns-clause-stream : goal.returns-clause-stream
returns-clause-stream c = sent_kept
