use Rattle.journal_records.proofs.RecordLaws.{fields_once, record_once}
use Rattle.journal_records.proofs.laws.records_are_told_apart.Goals as goal

pub returns-clause-fields : goal.returns-clause-fields
returns-clause-fields c = fields_once

pub returns-clause-texts : goal.returns-clause-texts
returns-clause-texts c = record_once
