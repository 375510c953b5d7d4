use Rattle.std.proofs.Common.{refl}
use Rattle.std.proofs.lemmas.Result.{err_from_is_err_and}
use Rattle.utf8_fields.proofs.FirstField.{BeginsAt-from_split, fault_not_field, fault_first, fault_further, next_field}
use Rattle.utf8_fields.proofs.reading.read_field.Goals as goal

pub returns-in_err-check_line-clause-fault : goal.returns-in_err-check_line-clause-fault
returns-in_err-check_line-clause-fault c =
    let begins = BeginsAt-from_split c.args.octets.now c.split_at.result.1.now c.split_at-2.result.0.now c.split_at-2.result.1.now c.args.at c.line_len.result
    c.requires.fits c.requires.goes_on c.split_at.ensures.back c.line_len.ensures.bound c.line_len.ensures.line c.split_at-2.ensures.front c.split_at-2.ensures.back in
    let p = err_from_is_err_and c.from_residual.result c.from_residual.ensures.1 in
    rw (p.1, p.2) (fault_first c.args.octets.now c.split_at-2.result.0.now _ c.args.at _ c.in_err-check_line.field-0.0 begins c.in-Some.ensures.some c.in_err-check_line.ensures.bad)

pub returns-in_err-further-clause-fault : goal.returns-in_err-further-clause-fault
returns-in_err-further-clause-fault c =
    let begins = BeginsAt-from_split c.args.octets.now c.split_at.result.1.now c.split_at-2.result.0.now c.split_at-2.result.1.now c.args.at c.line_len.result
    c.requires.fits c.requires.goes_on c.split_at.ensures.back c.line_len.ensures.bound c.line_len.ensures.line c.split_at-2.ensures.front c.split_at-2.ensures.back in
    let p = err_from_is_err_and c.from_residual-in_err-further.result c.from_residual-in_err-further.ensures.1 in
    rw (p.1, p.2) (fault_further c.args.octets.now c.split_at-2.result.0.now _ c.args.at c.in-Some.name c.in_err-further.field-0.0 begins c.in-Some.ensures.some
    c.in_ok-check_line.ensures.sound c.in_ok-check_line.ensures.utf8 c.in_err-further.ensures.bad)

pub returns-clause-field : goal.returns-clause-field
returns-clause-field c =
    let begins = BeginsAt-from_split c.args.octets.now c.split_at.result.1.now c.split_at-2.result.0.now c.split_at-2.result.1.now c.args.at c.line_len.result
    c.requires.fits c.requires.goes_on c.split_at.ensures.back c.line_len.ensures.bound c.line_len.ensures.line c.split_at-2.ensures.front c.split_at-2.ensures.back in
    next_field c.args.octets.now c.split_at-2.result.0.now _ c.args.at c.in-Some.name c.in_ok-further.further begins c.in-Some.ensures.some c.in_ok-check_line.ensures.sound c.in_ok-check_line.ensures.utf8
    c.in_ok-further.ensures.lines c.in_ok-further.ensures.ends

pub returns-in_default-clause-fault : goal.returns-in_default-clause-fault
returns-in_default-clause-fault c =
    let begins = BeginsAt-from_split c.args.octets.now c.split_at.result.1.now c.split_at-2.result.0.now c.split_at-2.result.1.now c.args.at c.line_len.result
    c.requires.fits c.requires.goes_on c.split_at.ensures.back c.line_len.ensures.bound c.line_len.ensures.line c.split_at-2.ensures.front c.split_at-2.ensures.back in
    fault_not_field c.args.octets.now c.split_at-2.result.0.now _ c.args.at begins (c.in_default.ensures.none refl)
