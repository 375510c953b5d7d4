use Rattle.mail_store.proofs.Readings.{same_records, same_records_in, records_not_bad, one_bad}
use Rattle.mail_store.proofs.laws.one_reading.Goals as goal

pub returns-clause-same : goal.returns-clause-same
returns-clause-same c = same_records

pub returns-clause-version : goal.returns-clause-version
returns-clause-version c = λ octets first second a b had has. (same_records_in first second octets a b had has).0

pub returns-clause-not_bad : goal.returns-clause-not_bad
returns-clause-not_bad c = records_not_bad

pub returns-clause-one_bad : goal.returns-clause-one_bad
returns-clause-one_bad c = one_bad
