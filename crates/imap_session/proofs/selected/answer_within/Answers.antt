use Rattle.std.proofs.Common.{◌∙◌, ap, refl}
use Rattle.kept_mail.specs.Kept.{listed}
use Rattle.session_core.specs.Keeps.{fault_of}
use Rattle.session_core.specs.Oracles.{Oracles}
use Rattle.imap_session.specs.Machine.{Context, Fetch, State, Store, context_of, done, expunge_step, fetch_step, mailbox_step, says, selected, selected_step, store_step}
use Rattle.imap_session.specs.Session.{KnowsFolder, selection_of}
use Rattle.imap_session.proofs.SelectedLemmas.{Takes-state, Takes-stays, expunge_state, fetch_state, on_ok, selected-other, store_state}
use Rattle.imap_session.proofs.StepLemmas.{Takes-same, says_given}
use Rattle.imap_session.proofs.selected.answer_within.Goals as goal

pub returns-in-Check-clause-takes : goal.returns-in-Check-clause-takes
returns-in-Check-clause-takes g c now =
    let state = selected (selection_of g.V.View.mode c.args.imap.state) in
    rw c.in-Check.is (Takes-state c.args.outside.now c.say-done.new.outside (fault_of c.say-done.result) c.stay.result state (λ oracles. says c.args.tag.now done state)
    (λ oracles are. says_given oracles c.args.outside.now c.say-done.new.outside (fault_of c.say-done.result) c.args.tag.now done state c.say-done.ensures.replies)
    (λ oracles. refl) c.stay.ensures.met c.stay.ensures.state
    (c.stay.ensures.known c.say-done.new.outside.desk.store (on_ok c.say-done.result
    (KnowsFolder c.say-done.new.outside.desk.store c.args.imap.state.account c.args.imap.state.folder c.args.imap.state.messages.items) (rw c.say-done.ensures.replies.leaves.desk c.requires.known))))

pub returns-in-Fetch-clause-takes : goal.returns-in-Fetch-clause-takes
returns-in-Fetch-clause-takes g c now =
    let context : Oracles → Context = λ oracles. context_of oracles now c.args.tag.now c.args.outside.now.desk.store in
    let selection = selection_of g.V.View.mode c.args.imap.state in
    let does = rw c.as_slice-items.ensures at c.fetch-done.ensures.does in
    let said : Fetch = record { by_uid = c.in-Fetch.uid; set = c.in-Fetch.set; items = c.in-Fetch.items } in
    rw c.in-Fetch.is (Takes-stays c.args.outside.now c.fetch-done.new.outside (fault_of c.fetch-done.result) c.stay-in-Fetch.result g.V.View.mode c.args.imap.state c.fetch-done.new.selected
    (λ oracles. fetch_step (context oracles) selection said) c.fetch-done.ensures.same (λ oracles are. does oracles are now) (λ oracles. fetch_state (context oracles) selection said)
    c.stay-in-Fetch.ensures.met c.stay-in-Fetch.ensures.state (c.stay-in-Fetch.ensures.known c.fetch-done.new.outside.desk.store c.fetch-done.ensures.known))

pub returns-in-Store-clause-takes : goal.returns-in-Store-clause-takes
returns-in-Store-clause-takes g c now =
    let context : Oracles → Context = λ oracles. context_of oracles now c.args.tag.now c.args.outside.now.desk.store in
    let selection = selection_of g.V.View.mode c.args.imap.state in
    let said : Store = record { by_uid = c.in-Store.uid; set = c.in-Store.set; op = c.in-Store.op; silent = c.in-Store.silent; flags = c.in-Store.flags } in
    rw c.in-Store.is (Takes-stays c.args.outside.now c.store-done.new.outside (fault_of c.store-done.result) c.stay-in-Store.result g.V.View.mode c.args.imap.state c.store-done.new.selected
    (λ oracles. store_step (context oracles) selection said) c.store-done.ensures.same (λ oracles are. c.store-done.ensures.does oracles are now g.V.View.mode)
    (λ oracles. store_state (context oracles) selection said)
    c.stay-in-Store.ensures.met c.stay-in-Store.ensures.state (c.stay-in-Store.ensures.known c.store-done.new.outside.desk.store c.store-done.ensures.known))

pub returns-in-Expunge-clause-takes : goal.returns-in-Expunge-clause-takes
returns-in-Expunge-clause-takes g c now =
    let messages = listed c.args.outside.now.desk.store.kept c.args.imap.state.folder in
    let state = selected (selection_of g.V.View.mode c.args.imap.state) in
    rw c.in-Expunge.is (Takes-stays c.args.outside.now c.expunge-done.new.outside (fault_of c.expunge-done.result) c.stay-in-Expunge.result g.V.View.mode c.args.imap.state c.expunge-done.new.selected
    (λ oracles. expunge_step c.args.tag.now state c.args.imap.state.read_only messages)
    c.expunge-done.ensures.same (λ oracles are. c.expunge-done.ensures.does oracles are state) (λ oracles. expunge_state c.args.tag.now state c.args.imap.state.read_only messages)
    c.stay-in-Expunge.ensures.met c.stay-in-Expunge.ensures.state (c.stay-in-Expunge.ensures.known c.expunge-done.new.outside.desk.store c.expunge-done.ensures.known))

pub returns-in_default-clause-takes : goal.returns-in_default-clause-takes
returns-in_default-clause-takes g c now =
    let mode = g.V.View.mode in
    let state = c.args.imap.state in
    let context : Oracles → Context = λ oracles. context_of oracles now c.args.tag.now c.args.outside.now.desk.store in
    Takes-same c.args.outside.now c.answer_on_folders.new.outside c.answer_on_folders.result _ (λ oracles. selected_step (context oracles) (selection_of mode state) c.args.command.now)
    (λ oracles are. ap (λ (s : State). mailbox_step (context oracles) s mode state.account c.args.command.now) c.in_selected-session.ensures.state
    ∙ selected-other (context oracles) (selection_of mode state) c.args.command.now
    c.in_default.not-Check c.in_default.not-Fetch c.in_default.not-Store c.in_default.not-Expunge c.requires.stays) (c.answer_on_folders.ensures.takes now)
