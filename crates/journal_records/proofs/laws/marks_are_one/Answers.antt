use Rattle.journal_records.proofs.MarkLemmas.{mark_there, mark_stored, mark_once, mark_below}
use Rattle.journal_records.proofs.laws.marks_are_one.Goals as goal

pub returns-clause-there : goal.returns-clause-there
returns-clause-there c = mark_there

pub returns-clause-stored : goal.returns-clause-stored
returns-clause-stored c = mark_stored

pub returns-clause-one : goal.returns-clause-one
returns-clause-one c = mark_once

pub returns-clause-below : goal.returns-clause-below
returns-clause-below c = mark_below
