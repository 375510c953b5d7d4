use Rattle.std.proofs.Common.{◌++◌, ◌∙◌, None, Some, refl}
use Rattle.std.proofs.lemmas.Result.{err_from_is_err_and}
use Rattle.mail_wire.specs.declared.outside.Fault.TheVariants as fault
use Rattle.session_core.specs.Moments.{moment_of}
use Rattle.session_core.proofs.StepLemmas.{Steps-stop}
use Rattle.smtp_session.specs.Session.{SmtpStands, smtp_protocol}
use Rattle.smtp_session.proofs.DataSteps.{Steps-data, Steps-data_fails, Steps-data_wait, takes_as, taking}
use Rattle.smtp_session.proofs.session.take_data.Goals as goal

pub returns-in_default-clause-steps : goal.returns-in_default-clause-steps
returns-in_default-clause-steps g c =
    Steps-stop smtp_protocol SmtpStands c.args.outside.now (taking c.args.session c.args.reader) c.args.kept.now c.args.kept.now c.args.piece.now fault.Memory (λ bad. cc)

pub returns-in_default-now-clause-steps : goal.returns-in_default-now-clause-steps
returns-in_default-now-clause-steps g c =
    rw c.now.ensures.same (Steps-stop smtp_protocol SmtpStands c.args.outside.now (taking c.args.session c.args.reader) c.args.kept.now c.args.kept.now c.args.piece.now fault.Memory (λ bad. cc))

pub returns-in_err-greeted-in-Some-clause-steps : goal.returns-in_err-greeted-in-Some-clause-steps
returns-in_err-greeted-in-Some-clause-steps g c =
    let ended = c.take-taken.new.self in
    let takes = takes_as c.args.reader ended c.args.piece.now c.in-Ok.found (Some c.in-Some.used) c.in-Some.is c.in-Ok.ensures.takes in
    let failed = err_from_is_err_and c.from_residual.result c.from_residual.ensures.1 in
    rw (failed.1, failed.2)
    (Steps-data_fails c.args.outside.now c.end_data.new.outside c.args.session c.args.reader ended c.args.kept.now c.args.kept.now c.args.piece.now c.in-Some.used (moment_of c.in-Ok-now.timestamp)
    c.in_err-greeted-in-Some.field-0.0 c.in-Ok-now.ensures.told takes (rw c.now.ensures.same at c.in_err-greeted-in-Some.ensures.does))

pub returns-in_ok-greeted-in-Some-clause-steps : goal.returns-in_ok-greeted-in-Some-clause-steps
returns-in_ok-greeted-in-Some-clause-steps g c =
    let ended = c.take-taken.new.self in
    let takes = takes_as c.args.reader ended c.args.piece.now c.in-Ok.found (Some c.in-Some.used) c.in-Some.is c.in-Ok.ensures.takes in
    let first = c.begun.ensures.first c.end_data.new.outside.desk (rw (c.message_max-max.ensures.value, c.store.ensures) refl) (rw c.in_ok-greeted-in-Some.ensures.client c.requires.ready.known.0) in
    Steps-data c.args.outside.now c.end_data.new.outside c.args.session c.args.reader ended c.args.kept.now c.args.kept.now c.args.piece.now c.in-Some.used (moment_of c.in-Ok-now.timestamp)
    c.in_ok-greeted-in-Some.greeted c.begun.result c.in-Ok-now.ensures.told takes (rw c.now.ensures.same at c.in_ok-greeted-in-Some.ensures.does) c.in_ok-greeted-in-Some.ensures.client c.begun.ensures.state first
    c.requires.ready.unfinished.nothing_kept

pub returns-in_ok-greeted-in-Some-clause-used : goal.returns-in_ok-greeted-in-Some-clause-used
returns-in_ok-greeted-in-Some-clause-used g c =
    let had = c.requires.ready.unfinished in
    let found = takes_as c.args.reader c.take-taken.new.self c.args.piece.now c.in-Ok.found (Some c.in-Some.used) c.in-Some.is c.in-Ok.ensures.takes had.octets had.read in
    (found.some, found.fits)

pub returns-in_ok-greeted-in-Some-clause-ready : goal.returns-in_ok-greeted-in-Some-clause-ready
returns-in_ok-greeted-in-Some-clause-ready g c =
    let first = c.begun.ensures.first c.end_data.new.outside.desk (rw (c.message_max-max.ensures.value, c.store.ensures) refl) (rw c.in_ok-greeted-in-Some.ensures.client c.requires.ready.known.0) in
    rw c.requires.ready.unfinished.nothing_kept first.ready

pub returns-in-None-clause-steps : goal.returns-in-None-clause-steps
returns-in-None-clause-steps g c =
    let takes = takes_as c.args.reader c.take-taken.new.self c.args.piece.now c.in-Ok.found None c.in-None.is c.in-Ok.ensures.takes in
    Steps-data_wait c.args.outside.now c.args.session c.args.reader c.take-taken.new.self c.args.kept.now c.args.kept.now c.args.piece.now takes

pub returns-in-None-clause-ready : goal.returns-in-None-clause-ready
returns-in-None-clause-ready g c =
    let takes = takes_as c.args.reader c.take-taken.new.self c.args.piece.now c.in-Ok.found None c.in-None.is c.in-Ok.ensures.takes in
    let had = c.requires.ready.unfinished in
    record {
      unfinished = record { octets = had.octets ++ c.args.piece.now; read = (takes had.octets had.read).1; limit = c.take-taken.ensures.limit ∙ had.limit; nothing_kept = had.nothing_kept };
      known = c.requires.ready.known;
    }
