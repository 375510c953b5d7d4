use Rattle.std.proofs.Common.{◌≡◌, ◌<◌, false, length, refl}
use Rattle.kept_mail.specs.Kept.{listed}
use Rattle.session_core.specs.Keeps.{fault_of}
use Rattle.imap_session.specs.Machine.{authenticated, close_step, context_of, lacks_date, selected_step}
use Rattle.imap_session.specs.Session.{selection_of}
use Rattle.imap_session.proofs.CommandLemmas.{dated-other, selects-other}
use Rattle.imap_session.proofs.SelectedLemmas.{Takes-state, on_ok_then}
use Rattle.imap_session.proofs.StepLemmas.{TakesAt-plain}
use Rattle.imap_session.proofs.selected.answer_selected.Goals as goal

pub returns-in-Select-clause-takes : goal.returns-in-Select-clause-takes
returns-in-Select-clause-takes g c =
    rw c.in-Select.is (TakesAt-plain c.args.outside.now c.select.new.outside c.select.result false _ refl (λ now. rw (c.as_slice.ensures, c.unselect.ensures) at c.select.ensures.takes))

pub returns-in-Examine-clause-takes : goal.returns-in-Examine-clause-takes
returns-in-Examine-clause-takes g c =
    rw c.in-Examine.is (TakesAt-plain c.args.outside.now c.select-in-Examine.new.outside c.select-in-Examine.result false _ refl (λ now. rw (c.as_slice-in-Examine.ensures, c.unselect-in-Examine.ensures) at c.select-in-Examine.ensures.takes))

pub returns-in-Close-clause-takes : goal.returns-in-Close-clause-takes
returns-in-Close-clause-takes g c =
    let state = authenticated g.V.View.mode c.args.imap.state.account in
    let old = length c.args.outside.now.desk.store.kept.accounts in
    let new = length c.close-done.new.outside.desk.store.kept.accounts in
    rw c.in-Close.is (TakesAt-plain c.args.outside.now c.close-done.new.outside c.leave.result false _ refl (λ now. Takes-state c.args.outside.now c.close-done.new.outside (fault_of c.close-done.result) c.leave.result state
    (λ oracles. close_step c.args.tag.now state c.args.imap.state.read_only (listed c.args.outside.now.desk.store.kept c.args.imap.state.folder))
    (λ oracles are. c.close-done.ensures.does oracles are state) (λ oracles. refl) c.leave.ensures.met c.leave.ensures.state
    (c.leave.ensures.known c.close-done.new.outside.desk.store
    (on_ok_then c.close-done.result (new ≡ old) (c.args.imap.state.account < new) (λ same. rw same c.requires.known.account_is) c.close-done.ensures.accounts))))

pub returns-in-Append-clause-takes : goal.returns-in-Append-clause-takes
returns-in-Append-clause-takes g c = rw c.in-Append.is (rw (c.as_slice-in-Append.ensures, c.as_slice-in-Append-2.ensures) at c.append_selected.ensures.takes)

pub returns-in_default-clause-takes : goal.returns-in_default-clause-takes
returns-in_default-clause-takes g c =
    let said = c.args.command.now in
    let plain = selects-other said c.in_default.not-Select c.in_default.not-Examine c.in_default.not-Append in
    let was = c.args.imap.state in
    TakesAt-plain c.args.outside.now c.answer_within.new.outside c.answer_within.result (lacks_date said)
    (λ oracles now. selected_step (context_of oracles now c.args.tag.now c.args.outside.now.desk.store) (selection_of g.V.View.mode was) said) (dated-other said plain) c.answer_within.ensures.takes
