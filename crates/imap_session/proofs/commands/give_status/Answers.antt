use Rattle.std.proofs.Common.{◌≡◌, ℕ, Option, codes, subst}
use Rattle.std.proofs.lemmas.Result.{err_from_is_err_and}
use Rattle.session_core.specs.Keeps.{fault_of}
use Rattle.mail_store.specs.StoreState.{StoreState}
use Rattle.session_core.specs.Doing.{Does}
use Rattle.imap_session.specs.Machine.{done, folder_named, status_by, status_line}
use Rattle.imap_session.specs.Replies.{part_octets, reply_octets}
use Rattle.imap_session.proofs.StepLemmas.{answers_given, nothing_given, says_given}
use Rattle.imap_session.proofs.commands.give_status.Goals as goal

pub returns-in_err-folder-clause-does : goal.returns-in_err-folder-clause-does
returns-in_err-folder-clause-does g c = λ oracles are state.
    let failed = err_from_is_err_and c.from_residual.result c.from_residual.ensures.1 in
    let named = folder_named oracles g.V.View.mode c.args.outside.now.desk.store c.args.account c.args.written.now in
    rw (failed.1, failed.2) (nothing_given oracles c.args.outside.now (status_by c.args.tag.now state g.V.View.mode c.args.outside.now.desk.store c.args.items.now named))

pub returns-in_default-clause-does : goal.returns-in_default-clause-does
returns-in_default-clause-does g c = λ oracles are state.
    let found = rw (c.in_default.is, c.store.ensures) at (c.in_ok-folder.ensures.found oracles are) in
    subst (λ (named : Option ℕ). Does (part_octets oracles) c.args.outside.now c.say.new.outside (fault_of c.say.result) (status_by c.args.tag.now state g.V.View.mode c.args.outside.now.desk.store c.args.items.now named).acts) found
    (says_given oracles c.args.outside.now c.say.new.outside (fault_of c.say.result) c.args.tag.now (codes "NO no such folder") state c.say.ensures.replies)

pub returns-in_err-line-clause-does : goal.returns-in_err-line-clause-does
returns-in_err-line-clause-does g c = λ oracles are state.
    let failed = err_from_is_err_and c.from_residual-in_err-line.result c.from_residual-in_err-line.ensures.1 in
    let named = folder_named oracles g.V.View.mode c.args.outside.now.desk.store c.args.account c.args.written.now in
    rw (failed.1, failed.2) (nothing_given oracles c.args.outside.now (status_by c.args.tag.now state g.V.View.mode c.args.outside.now.desk.store c.args.items.now named))

pub returns-clause-does : goal.returns-clause-does
returns-clause-does g c = λ oracles are state.
    let found = rw (c.in-Some.is, c.store.ensures) at (c.in_ok-folder.ensures.found oracles are) in
    let lines = status_line g.V.View.mode c.args.outside.now.desk.store c.in-Some.folder c.args.items.now in
    subst (λ (named : Option ℕ). Does (part_octets oracles) c.args.outside.now c.answer.new.outside (fault_of c.answer.result) (status_by c.args.tag.now state g.V.View.mode c.args.outside.now.desk.store c.args.items.now named).acts) found
    (answers_given oracles c.args.outside.now c.answer.new.outside (fault_of c.answer.result) c.args.tag.now done lines state c.in_ok-line.line
    (subst (λ (store : StoreState). c.in_ok-line.line ≡ reply_octets oracles (status_line g.V.View.mode store c.in-Some.folder c.args.items.now)) c.store-2.ensures (c.in_ok-line.ensures oracles))
    c.answer.ensures.replies)
