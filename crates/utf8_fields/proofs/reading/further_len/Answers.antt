use Rattle.std.proofs.Common.{arith, ◌≡◌, true, false, refl, subst}
use Rattle.std.proofs.lemmas.Result.{err_from_is_err_and}
use Rattle.mail_wire.specs.Lines.{lines_of}
use Rattle.utf8_fields.specs.private.Steps.{EndsField}
use Rattle.utf8_fields.proofs.Further.{white_some, goes_on, none_yet, one_more, no_more, bad_one}
use Rattle.utf8_fields.proofs.reading.further_len.Goals as goal

pub loop-rest-init : goal.loop-rest-init
loop-rest-init c = (refl, none_yet c.args.octets.now)

pub overflow_add-at : goal.overflow_add-at
overflow_add-at c =
    let next = goes_on c.args.octets.now c.loop-rest.rest.now c.split_at.result.0.now c.split_at.result.1.now c.loop-rest.len c.line_len.result c.loop-rest.invariant.0
    c.loop-rest.invariant.1.fits (c.begins_white.ensures.0 c.loop-rest-test.true) c.line_len.ensures.bound c.line_len.ensures.line c.split_at.ensures.front c.split_at.ensures.back in
    omega (arith, next.fits)

pub check_line-requires : goal.check_line-requires
check_line-requires c =
    let next = goes_on c.args.octets.now c.loop-rest.rest.now c.split_at.result.0.now c.split_at.result.1.now c.loop-rest.len c.line_len.result c.loop-rest.invariant.0
    c.loop-rest.invariant.1.fits (c.begins_white.ensures.0 c.loop-rest-test.true) c.line_len.ensures.bound c.line_len.ensures.line c.split_at.ensures.front c.split_at.ensures.back in
    omega (arith, next.fits)

pub overflow_add-len : goal.overflow_add-len
overflow_add-len c =
    let next = goes_on c.args.octets.now c.loop-rest.rest.now c.split_at.result.0.now c.split_at.result.1.now c.loop-rest.len c.line_len.result c.loop-rest.invariant.0
    c.loop-rest.invariant.1.fits (c.begins_white.ensures.0 c.loop-rest-test.true) c.line_len.ensures.bound c.line_len.ensures.line c.split_at.ensures.front c.split_at.ensures.back in
    omega (arith, next.fits)

pub loop-rest-smaller : goal.loop-rest-smaller
loop-rest-smaller c =
    let some = white_some c.loop-rest.rest.now (c.begins_white.ensures.0 c.loop-rest-test.true) in
    omega (arith, c.line_len.ensures.some some, c.line_len.ensures.bound, c.split_at.ensures.back_len)

pub loop-rest-preserved : goal.loop-rest-preserved
loop-rest-preserved c =
    let next = goes_on c.args.octets.now c.loop-rest.rest.now c.split_at.result.0.now c.split_at.result.1.now c.loop-rest.len c.line_len.result c.loop-rest.invariant.0
    c.loop-rest.invariant.1.fits (c.begins_white.ensures.0 c.loop-rest-test.true) c.line_len.ensures.bound c.line_len.ensures.line c.split_at.ensures.front c.split_at.ensures.back in
    (next.after_is, one_more c.args.octets.now c.split_at.result.0.now c.split_at.result.1.now c.loop-rest.len c.loop-rest.invariant.1 next c.in_ok-check_line.ensures.sound c.in_ok-check_line.ensures.utf8)

pub returns-clause-ends : goal.returns-clause-ends
returns-clause-ends c =
    let other : c.begins_white.result ≡ false = c.loop-rest-test.false in
    let ends = no_more c.loop-rest.rest.now (λ white. let begins : c.begins_white.result ≡ true = c.begins_white.ensures.1 white in cc) in
    subst (λ rest. EndsField (lines_of rest)) c.loop-rest.invariant.0 ends

pub returns-in_err-check_line-clause-bad : goal.returns-in_err-check_line-clause-bad
returns-in_err-check_line-clause-bad c =
    let next = goes_on c.args.octets.now c.loop-rest.rest.now c.split_at.result.0.now c.split_at.result.1.now c.loop-rest.len c.line_len.result c.loop-rest.invariant.0
    c.loop-rest.invariant.1.fits (c.begins_white.ensures.0 c.loop-rest-test.true) c.line_len.ensures.bound c.line_len.ensures.line c.split_at.ensures.front c.split_at.ensures.back in
    let p = err_from_is_err_and c.from_residual.result c.from_residual.ensures.1 in
    rw (p.1, p.2) (bad_one c.args.octets.now c.split_at.result.0.now c.split_at.result.1.now c.args.at c.loop-rest.len c.in_err-check_line.field-0.0 c.loop-rest.invariant.1 next c.in_err-check_line.ensures.bad)
