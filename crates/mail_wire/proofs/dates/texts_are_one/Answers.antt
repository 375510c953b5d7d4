use Rattle.mail_wire.proofs.DateLemmas.{one_date, one_internal_date}
use Rattle.mail_wire.proofs.dates.texts_are_one.Goals as goal

pub returns-clause-date : goal.returns-clause-date
returns-clause-date c = one_date

pub returns-clause-internal : goal.returns-clause-internal
returns-clause-internal c = one_internal_date
