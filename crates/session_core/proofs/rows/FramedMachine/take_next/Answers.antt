use Rattle.std.proofs.Common.{◌++◌, take, drop, ap}
use Rattle.std.proofs.lemmas.Result.{err_from_is_err_and}
use Rattle.mail_wire.specs.declared.framing.TheConstants.{LINE_MAX}
use Rattle.mail_wire.specs.declared.outside.Fault.TheVariants as fault
use Rattle.session_core.specs.Grammar.{protocol_of}
use Rattle.session_core.proofs.FramedSteps.{FramedStands, Steps-long, Steps-long_fails, Steps-more, Steps-unit, Steps-unit_fails, found_long, found_whole, next_ready, unit_of}
use Rattle.session_core.proofs.StepLemmas.{Steps-stop}
use Rattle.session_core.proofs.rows.FramedMachine.take_next.Goals as goal

pub answer_unit-requires-clause-unit : goal.answer_unit-requires-clause-unit
answer_unit-requires-clause-unit g c =
    let want = g.R.Rows.wanted c.args.self.rows in
    let octets = c.args.kept.now ++ c.split_at.result.0.now in
    let unit = ap (λ l. c.args.kept.now ++ l) {x = c.split_at.result.0.now} {y = take c.in-Whole.used c.args.piece.now} c.split_at.ensures.front in
    unit_of want (c.args.kept.now ++ c.args.piece.now) octets (drop c.in-Whole.used c.args.piece.now)
    (found_whole want c.find_unit.result c.args.kept.now c.args.piece.now octets c.in-Whole.used (rw (c.wants.ensures, c.as_slice.ensures) at c.find_unit.ensures.unit) c.in-Whole.is unit)

pub returns-in_err-next-in-Whole-clause-steps : goal.returns-in_err-next-in-Whole-clause-steps
returns-in_err-next-in-Whole-clause-steps g c =
    let want = g.R.Rows.wanted c.args.self.rows in
    let failed = err_from_is_err_and c.from_residual.result c.from_residual.ensures.1 in
    let octets = c.args.kept.now ++ c.split_at.result.0.now in
    let unit = ap (λ l. c.args.kept.now ++ l) {x = c.split_at.result.0.now} {y = take c.in-Whole.used c.args.piece.now} c.split_at.ensures.front in
    let found = found_whole want c.find_unit.result c.args.kept.now c.args.piece.now octets c.in-Whole.used (rw (c.wants.ensures, c.as_slice.ensures) at c.find_unit.ensures.unit) c.in-Whole.is unit in
    rw (failed.1, failed.2)
    (Steps-unit_fails g.R.Rows.grammar g.R.Rows.stands want c.args.outside.now c.answer_unit.new.outside c.args.self c.args.kept.now c.answer_unit.new.kept c.args.piece.now
    octets c.in-Whole.used c.in_err-next-in-Whole.field-0.0 (λ more state. g.met.R.Rows.agrees more c.args.self.rows c.args.outside.now.desk state) found c.in_err-next-in-Whole.ensures.answers)

pub returns-in_ok-next-in-Whole-clause-steps : goal.returns-in_ok-next-in-Whole-clause-steps
returns-in_ok-next-in-Whole-clause-steps g c =
    let want = g.R.Rows.wanted c.args.self.rows in
    let octets = c.args.kept.now ++ c.split_at.result.0.now in
    let unit = ap (λ l. c.args.kept.now ++ l) {x = c.split_at.result.0.now} {y = take c.in-Whole.used c.args.piece.now} c.split_at.ensures.front in
    let found = found_whole want c.find_unit.result c.args.kept.now c.args.piece.now octets c.in-Whole.used (rw (c.wants.ensures, c.as_slice.ensures) at c.find_unit.ensures.unit) c.in-Whole.is unit in
    rw (c.advance_of.ensures, c.in_ok-next-in-Whole.ensures.cleared)
    (Steps-unit g.R.Rows.grammar g.R.Rows.stands want c.args.outside.now c.answer_unit.new.outside c.args.self c.args.kept.now c.args.piece.now
    octets c.in-Whole.used c.in_ok-next-in-Whole.next (λ more state. g.met.R.Rows.agrees more c.args.self.rows c.args.outside.now.desk state) found c.in_ok-next-in-Whole.ensures.answers)

pub returns-in_ok-next-in-Whole-clause-ready : goal.returns-in_ok-next-in-Whole-clause-ready
returns-in_ok-next-in-Whole-clause-ready g c =
    rw (c.advance_of.ensures, c.in_ok-next-in-Whole.ensures.cleared) (next_ready g.R.Rows.wanted g.R.Rows.knows c.in_ok-next-in-Whole.next c.in-Whole.used c.answer_unit.new.outside.desk c.in_ok-next-in-Whole.ensures.known)

pub returns-in_err-refuse_line-in-TooLong-clause-steps : goal.returns-in_err-refuse_line-in-TooLong-clause-steps
returns-in_err-refuse_line-in-TooLong-clause-steps g c =
    let want = g.R.Rows.wanted c.args.self.rows in
    let failed = err_from_is_err_and c.from_residual-in_err-refuse_line-in-TooLong.result c.from_residual-in_err-refuse_line-in-TooLong.ensures.1 in
    let found = found_long want c.find_unit.result c.args.kept.now c.args.piece.now (rw (c.wants.ensures, c.as_slice.ensures) at c.find_unit.ensures.unit) c.in-TooLong.is in
    rw (failed.1, failed.2)
    (Steps-long_fails g.R.Rows.grammar g.R.Rows.stands want c.args.outside.now c.refuse_line.new.outside c.args.self c.args.kept.now c.args.kept.now c.args.piece.now (drop LINE_MAX (c.args.kept.now ++ c.args.piece.now))
    c.in_err-refuse_line-in-TooLong.field-0.0 (λ more state. g.met.R.Rows.agrees more c.args.self.rows c.args.outside.now.desk state) found c.in_err-refuse_line-in-TooLong.ensures.refuses)

pub returns-in_ok-refuse_line-in-TooLong-clause-steps : goal.returns-in_ok-refuse_line-in-TooLong-clause-steps
returns-in_ok-refuse_line-in-TooLong-clause-steps g c =
    let want = g.R.Rows.wanted c.args.self.rows in
    let found = found_long want c.find_unit.result c.args.kept.now c.args.piece.now (rw (c.wants.ensures, c.as_slice.ensures) at c.find_unit.ensures.unit) c.in-TooLong.is in
    Steps-long g.R.Rows.grammar g.R.Rows.stands (λ oracles state. g.met.R.Rows.ends oracles state) want c.args.outside.now c.refuse_line.new.outside c.args.self c.args.kept.now c.args.kept.now c.args.piece.now
    (drop LINE_MAX (c.args.kept.now ++ c.args.piece.now)) (λ more state. g.met.R.Rows.agrees more c.args.self.rows c.args.outside.now.desk state) found c.in_ok-refuse_line-in-TooLong.ensures.refuses

pub returns-in_err-push_slice-in-Waiting-clause-steps : goal.returns-in_err-push_slice-in-Waiting-clause-steps
returns-in_err-push_slice-in-Waiting-clause-steps g c =
    let failed = err_from_is_err_and c.from_residual-in_err-push_slice-in-Waiting.result c.from_residual-in_err-push_slice-in-Waiting.ensures.1 in
    rw (failed.1, failed.2)
    (Steps-stop (protocol_of g.R.Rows.grammar) (FramedStands g.R.Rows.grammar g.R.Rows.stands) c.args.outside.now c.args.self c.args.kept.now c.push_slice.new.self c.args.piece.now fault.Memory (λ bad. cc))

pub returns-in_ok-push_slice-in-Waiting-clause-steps : goal.returns-in_ok-push_slice-in-Waiting-clause-steps
returns-in_ok-push_slice-in-Waiting-clause-steps g c =
    Steps-more g.R.Rows.grammar g.R.Rows.stands c.args.outside.now c.args.self c.args.kept.now c.push_slice.new.self c.args.piece.now c.in_ok-push_slice-in-Waiting.ensures.ok
