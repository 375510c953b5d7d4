use Rattle.std.proofs.Common.{◌++◌, take, drop, ap}
use Rattle.std.proofs.lemmas.Result.{err_from_is_err_and}
use Rattle.mail_wire.specs.declared.framing.TheConstants.{LINE_MAX}
use Rattle.mail_wire.specs.declared.outside.Fault.TheVariants as fault
use Rattle.session_core.specs.declared.rows.Wants.TheVariants as wants
use Rattle.session_core.proofs.FramedSteps.{found_long, found_whole, unit_of}
use Rattle.session_core.proofs.StepLemmas.{Steps-stop}
use Rattle.smtp_session.specs.Session.{SmtpStands, smtp_protocol}
use Rattle.smtp_session.proofs.LineSteps.{Steps-line, Steps-line_fails, Steps-long, Steps-long_fails, Steps-wait, waits_in}
use Rattle.smtp_session.proofs.session.take_line.Goals as goal

pub find_line-requires : goal.find_line-requires
find_line-requires g c = rw c.as_slice.ensures (waits_in c.args.machine c.args.machine.state c.args.kept.now c.args.outside.now.desk c.requires.lines c.requires.ready.unfinished)

pub take_whole-requires-clause-line : goal.take_whole-requires-clause-line
take_whole-requires-clause-line g c =
    let kept = c.args.kept.now in
    let line = kept ++ c.split_at.result.0.now in
    let same = ap (λ l. kept ++ l) {x = c.split_at.result.0.now} {y = take c.in-Whole.used c.args.piece.now} c.split_at.ensures.front in
    unit_of wants.Line (kept ++ c.args.piece.now) line (drop c.in-Whole.used c.args.piece.now)
    (found_whole wants.Line c.find_line.result kept c.args.piece.now line c.in-Whole.used (rw c.as_slice.ensures at c.find_line.ensures.line) c.in-Whole.is same)

pub returns-in_err-next-in-Whole-clause-steps : goal.returns-in_err-next-in-Whole-clause-steps
returns-in_err-next-in-Whole-clause-steps g c =
    let kept = c.args.kept.now in
    let line = kept ++ c.split_at.result.0.now in
    let same = ap (λ l. kept ++ l) {x = c.split_at.result.0.now} {y = take c.in-Whole.used c.args.piece.now} c.split_at.ensures.front in
    let found = found_whole wants.Line c.find_line.result kept c.args.piece.now line c.in-Whole.used (rw c.as_slice.ensures at c.find_line.ensures.line) c.in-Whole.is same in
    let failed = err_from_is_err_and c.from_residual.result c.from_residual.ensures.1 in
    rw (failed.1, failed.2)
    (Steps-line_fails c.args.outside.now c.take_whole.new.outside c.args.machine kept c.take_whole.new.kept c.args.piece.now line c.in-Whole.used c.in_err-next-in-Whole.field-0.0
    c.requires.lines found c.in_err-next-in-Whole.ensures.does)

pub returns-in_ok-next-in-Whole-clause-steps : goal.returns-in_ok-next-in-Whole-clause-steps
returns-in_ok-next-in-Whole-clause-steps g c =
    let kept = c.args.kept.now in
    let line = kept ++ c.split_at.result.0.now in
    let same = ap (λ l. kept ++ l) {x = c.split_at.result.0.now} {y = take c.in-Whole.used c.args.piece.now} c.split_at.ensures.front in
    let found = found_whole wants.Line c.find_line.result kept c.args.piece.now line c.in-Whole.used (rw c.as_slice.ensures at c.find_line.ensures.line) c.in-Whole.is same in
    Steps-line c.args.outside.now c.take_whole.new.outside c.args.machine kept c.take_whole.new.kept c.args.piece.now line c.in-Whole.used c.in_ok-next-in-Whole.next
    c.requires.lines found c.in_ok-next-in-Whole.ensures.does c.in_ok-next-in-Whole.ensures.next c.in_ok-next-in-Whole.ensures.first c.in_ok-next-in-Whole.ensures.kept

pub returns-in_err-give-in-TooLong-clause-steps : goal.returns-in_err-give-in-TooLong-clause-steps
returns-in_err-give-in-TooLong-clause-steps g c =
    let failed = err_from_is_err_and c.from_residual-in_err-give-in-TooLong.result c.from_residual-in_err-give-in-TooLong.ensures.1 in
    let found = found_long wants.Line c.find_line.result c.args.kept.now c.args.piece.now (rw c.as_slice.ensures at c.find_line.ensures.line) c.in-TooLong.is in
    rw (failed.1, failed.2)
    (Steps-long_fails c.args.outside.now c.give.new.self c.args.machine c.args.kept.now c.args.kept.now c.args.piece.now (drop LINE_MAX (c.args.kept.now ++ c.args.piece.now)) c.in_err-give-in-TooLong.field-0.0
    c.requires.lines found c.in_err-give-in-TooLong.ensures.replies)

pub returns-in_ok-give-in-TooLong-clause-steps : goal.returns-in_ok-give-in-TooLong-clause-steps
returns-in_ok-give-in-TooLong-clause-steps g c =
    let found = found_long wants.Line c.find_line.result c.args.kept.now c.args.piece.now (rw c.as_slice.ensures at c.find_line.ensures.line) c.in-TooLong.is in
    Steps-long c.args.outside.now c.give.new.self c.args.machine c.args.kept.now c.args.kept.now c.args.piece.now (drop LINE_MAX (c.args.kept.now ++ c.args.piece.now))
    c.requires.lines found c.in_ok-give-in-TooLong.ensures.replies

pub returns-in_default-clause-steps : goal.returns-in_default-clause-steps
returns-in_default-clause-steps g c =
    Steps-stop smtp_protocol SmtpStands c.args.outside.now c.args.machine c.args.kept.now c.push_slice.new.self c.args.piece.now fault.Memory (λ bad. cc)

pub returns-in-Ok-clause-steps : goal.returns-in-Ok-clause-steps
returns-in-Ok-clause-steps g c =
    Steps-wait c.args.outside.now c.args.machine c.args.kept.now c.push_slice.new.self c.args.piece.now c.requires.lines c.in-Ok.ensures.ok
