use Rattle.std.proofs.Common.{length}
use Rattle.std.proofs.lemmas.Result.{err_from_is_err_and}
use Rattle.journal_records.specs.Spelling.{number, fields_of}
use Rattle.journal_records.proofs.WritingLemmas.{first_of, puts_after}
use Rattle.journal_records.proofs.writing.push_record.Goals as goal

pub returns-in_err-push_number : goal.returns-in_err-push_number
returns-in_err-push_number c =
    let failed = err_from_is_err_and c.from_residual.result c.from_residual.ensures.1 in
    let fields = fields_of c.args.one.now in
    record { puts = rw failed.1 (first_of c.args.journal.now c.push_number.new.journal (number (length fields)) fields (rw (← c.fields_len.ensures) c.in_err-push_number.ensures)) }

pub returns : goal.returns
returns c =
    let fields = fields_of c.args.one.now in
    record {
      puts = puts_after c.args.journal.now c.push_number.new.journal c.push_fields.new.journal (number (length fields)) fields c.push_fields.result
          (rw (← c.fields_len.ensures) c.in_ok-push_number.ensures) c.push_fields.ensures;
    }
