use Rattle.std.proofs.Common.{◌-◌, Some, Ok, true, refl}
use Rattle.std.proofs.lemmas.Result.{err_from_is_err_and}
use Rattle.mail_wire.specs.Numbers.{number_of}
use Rattle.kept_mail.specs.Kept.{change_at}
use Rattle.pop_session.specs.Machine.{answers, done, marked, no_such_message, syntax_error, transaction}
use Rattle.pop_session.proofs.MaildropLemmas.{knows-marked}
use Rattle.pop_session.proofs.RowLemmas.{dele_found, found_within, takes_failed, takes_reply}
use Rattle.pop_session.proofs.session.dele.Goals as goal

pub returns-in_err-give-in-NotNumber-clause-takes : goal.returns-in_err-give-in-NotNumber-clause-takes
returns-in_err-give-in-NotNumber-clause-takes g c =
    let failed = err_from_is_err_and c.from_residual.result c.from_residual.ensures.1 in
    rw (failed.1, failed.2, c.in-NotNumber.ensures.asked)
    (takes_failed c.args.outside.now c.give.new.self c.in_err-give-in-NotNumber.field-0.0 (λ oracles. answers syntax_error (transaction g.V.View.mode c.args.pop.state.maildrop.items))
    (λ oracles. refl) (λ oracles are. c.in_err-give-in-NotNumber.ensures.replies))

pub returns-in_err-give-in-NoSuch-clause-takes : goal.returns-in_err-give-in-NoSuch-clause-takes
returns-in_err-give-in-NoSuch-clause-takes g c =
    let failed = err_from_is_err_and c.from_residual-in_err-give-in-NoSuch.result c.from_residual-in_err-give-in-NoSuch.ensures.1 in
    rw (failed.1, failed.2, c.in-NoSuch.ensures.asked.1, rw c.deref.ensures.value at c.in-NoSuch.ensures.asked.2)
    (takes_failed c.args.outside.now c.give-in-NoSuch.new.self c.in_err-give-in-NoSuch.field-0.0 (λ oracles. answers no_such_message (transaction g.V.View.mode c.args.pop.state.maildrop.items))
    (λ oracles. refl) (λ oracles are. c.in_err-give-in-NoSuch.ensures.replies))

pub returns-in_err-give-in-Found-clause-takes : goal.returns-in_err-give-in-Found-clause-takes
returns-in_err-give-in-Found-clause-takes g c =
    let failed = err_from_is_err_and c.from_residual-in_err-give-in-Found.result c.from_residual-in_err-give-in-Found.ensures.1 in
    let items = c.args.pop.state.maildrop.items in
    rw (failed.1, failed.2, dele_found g.V.View.mode items (number_of c.args.text.now) c.in-Found.number c.in-Found.one c.in-Found.ensures.asked.0 (rw c.deref.ensures.value at c.in-Found.ensures.asked.1))
    (takes_failed c.args.outside.now c.give-in-Found.new.self c.in_err-give-in-Found.field-0.0 (λ oracles. answers done (transaction g.V.View.mode (change_at (marked true) items (c.in-Found.number - 1))))
    (λ oracles. refl) (λ oracles are. c.in_err-give-in-Found.ensures.replies))

pub dele-requires : goal.dele-requires
dele-requires g c = found_within c.args.pop.state.maildrop.items c.in-Found.number c.in-Found.one (rw c.deref.ensures.value at c.in-Found.ensures.asked.1)

pub returns-in_ok-give-in-Found-clause-takes : goal.returns-in_ok-give-in-Found-clause-takes
returns-in_ok-give-in-Found-clause-takes g c =
    let items = c.args.pop.state.maildrop.items in
    rw (dele_found g.V.View.mode items (number_of c.args.text.now) c.in-Found.number c.in-Found.one c.in-Found.ensures.asked.0 (rw c.deref.ensures.value at c.in-Found.ensures.asked.1))
    (takes_reply c.args.outside.now c.give-in-Found.new.self (Ok (Some c.in_transaction-in-Found.result)) (λ oracles. answers done (transaction g.V.View.mode (change_at (marked true) items (c.in-Found.number - 1))))
    (λ oracles. refl) (λ oracles are. c.in_ok-give-in-Found.ensures.replies) (λ oracles are. rw (c.in_transaction-in-Found.ensures, c.dele.ensures) refl)
    (rw (c.in_transaction-in-Found.ensures, c.dele.ensures, c.in_ok-give-in-Found.ensures.replies.leaves.desk) (knows-marked c.args.outside.now.desk.store items (c.in-Found.number - 1) c.requires)))
