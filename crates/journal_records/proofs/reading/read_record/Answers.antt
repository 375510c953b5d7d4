use Rattle.std.proofs.Common.{arith}
use Rattle.journal_records.proofs.ReadLemmas.{read_spelled, read_fits, read_none}
use Rattle.journal_records.proofs.reading.read_record.Goals as goal

pub returns-clause-spelled : goal.returns-clause-spelled
returns-clause-spelled c = read_spelled c.record_of.result c.args.fields.now (λ i. omega (arith, c.type_inv.fields i)) c.record_of.ensures

pub returns-clause-fits : goal.returns-clause-fits
returns-clause-fits c = read_fits c.record_of.result c.args.fields.now (λ i. omega (arith, c.type_inv.fields i)) c.record_of.ensures

pub returns-clause-no_record : goal.returns-clause-no_record
returns-clause-no_record c = read_none c.record_of.result c.args.fields.now c.record_of.ensures
