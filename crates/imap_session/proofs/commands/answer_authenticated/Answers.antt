use Rattle.std.proofs.Common.{◌∙◌, ap, false, refl}
use Rattle.session_core.specs.Oracles.{Oracles}
use Rattle.imap_session.specs.Machine.{State, Step, authenticated_step, context_of, lacks_date, mailbox_step}
use Rattle.imap_session.specs.Session.{state_of}
use Rattle.imap_session.proofs.CommandLemmas.{authenticated-other, dated-other, selects-other}
use Rattle.imap_session.proofs.StepLemmas.{Takes-same, TakesAt-plain}
use Rattle.imap_session.proofs.commands.answer_authenticated.Goals as goal

pub returns-in-Enable-clause-takes : goal.returns-in-Enable-clause-takes
returns-in-Enable-clause-takes g c = rw c.in-Enable.is (TakesAt-plain c.args.outside.now c.enable.new.outside c.enable.result false _ refl (λ now. rw c.as_slice.ensures at c.enable.ensures.takes))

pub returns-in-Select-clause-takes : goal.returns-in-Select-clause-takes
returns-in-Select-clause-takes g c =
    rw c.in-Select.is (TakesAt-plain c.args.outside.now c.select.new.outside c.select.result false _ refl (λ now. rw c.as_slice-in-Select.ensures at c.select.ensures.takes))

pub returns-in-Examine-clause-takes : goal.returns-in-Examine-clause-takes
returns-in-Examine-clause-takes g c =
    rw c.in-Examine.is (TakesAt-plain c.args.outside.now c.select-in-Examine.new.outside c.select-in-Examine.result false _ refl (λ now. rw c.as_slice-in-Examine.ensures at c.select-in-Examine.ensures.takes))

pub returns-in-Append-clause-takes : goal.returns-in-Append-clause-takes
returns-in-Append-clause-takes g c = rw c.in-Append.is (rw (c.as_slice-in-Append.ensures, c.as_slice-in-Append-2.ensures) at c.append.ensures.takes)

pub returns-in_default-clause-takes : goal.returns-in_default-clause-takes
returns-in_default-clause-takes g c =
    let account = c.args.imap.state.account in
    let said = c.args.command.now in
    let plain = selects-other said c.in_default.not-Select c.in_default.not-Examine c.in_default.not-Append in
    TakesAt-plain c.args.outside.now c.answer_on_folders.new.outside c.answer_on_folders.result (lacks_date said)
    (λ oracles now. authenticated_step (context_of oracles now c.args.tag.now c.args.outside.now.desk.store) g.V.View.mode account said) (dated-other said plain) (λ now.
    let step : Oracles → State → Step = λ oracles state. mailbox_step (context_of oracles now c.args.tag.now c.args.outside.now.desk.store) state g.V.View.mode account said in
    Takes-same c.args.outside.now c.answer_on_folders.new.outside c.answer_on_folders.result (λ oracles. step oracles (state_of c.in_authenticated-session.result))
    (λ oracles. authenticated_step (context_of oracles now c.args.tag.now c.args.outside.now.desk.store) g.V.View.mode account said)
    (λ oracles are. ap (step oracles) c.in_authenticated-session.ensures.state ∙ authenticated-other oracles now c.args.tag.now g.V.View.mode account c.args.outside.now.desk.store said c.in_default.not-Enable)
    (c.answer_on_folders.ensures.takes now))
