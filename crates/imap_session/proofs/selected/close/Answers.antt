use Rattle.std.proofs.Common.{◌≡◌, ◌∙◌, ap, length}
use Rattle.std.proofs.lemmas.Result.{err_from_is_err_and}
use Rattle.kept_mail.specs.Kept.{listed}
use Rattle.session_core.specs.Keeps.{fault_of}
use Rattle.session_core.specs.declared.desk.Desk.{Desk}
use Rattle.imap_session.specs.Machine.{deleted_ids}
use Rattle.imap_session.proofs.SelectedLemmas.{close_broken, close_kept, close_told, counts_made, on_ok}
use Rattle.imap_session.proofs.selected.close.Goals as goal

pub returns-then-selected-clause-does : goal.returns-then-selected-clause-does
returns-then-selected-clause-does g c = λ oracles are state.
    close_kept oracles c.args.outside.now c.say.new.outside (fault_of c.say.result) c.args.tag.now state c.args.selected.now.read_only (listed c.args.outside.now.desk.store.kept c.args.selected.now.folder)
    c.if-selected.true c.say.ensures.replies

pub returns-in_err-take_deleted_out-clause-does : goal.returns-in_err-take_deleted_out-clause-does
returns-in_err-take_deleted_out-clause-does g c = λ oracles are state.
    let failed = err_from_is_err_and c.from_residual.result c.from_residual.ensures.1 in
    rw (failed.1, failed.2) (close_broken oracles c.args.outside.now c.take_deleted_out.new.outside c.in_err-take_deleted_out.field-0.0 c.args.tag.now state c.args.selected.now.read_only
    (listed c.args.outside.now.desk.store.kept c.args.selected.now.folder) c.if-selected.false (rw (c.deref.ensures.value ∙ c.requires.known.messages_are) at c.in_err-take_deleted_out.ensures.makes))

pub returns-clause-does : goal.returns-clause-does
returns-clause-does g c = λ oracles are state.
    close_told oracles c.args.outside.now c.take_deleted_out.new.outside c.say-2.new.outside (fault_of c.say-2.result) c.args.tag.now state c.args.selected.now.read_only
    (listed c.args.outside.now.desk.store.kept c.args.selected.now.folder) c.if-selected.false (rw (c.deref.ensures.value ∙ c.requires.known.messages_are) at c.in_ok-take_deleted_out.ensures.makes)
    c.say-2.ensures.replies

pub returns-clause-accounts : goal.returns-clause-accounts
returns-clause-accounts g c =
    let counts = counts_made c.args.outside.now c.take_deleted_out.new.outside (deleted_ids c.deref.result.now) c.in_ok-take_deleted_out.ensures.makes in
    on_ok c.say-2.result (length c.say-2.new.outside.desk.store.kept.accounts ≡ length c.args.outside.now.desk.store.kept.accounts)
    (ap (λ (desk : Desk). length desk.store.kept.accounts) c.say-2.ensures.replies.leaves.desk ∙ counts.accounts)
