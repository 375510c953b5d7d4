use Rattle.session_core.specs.Keeps.{fault_of}
use Rattle.imap_session.specs.Machine.{context_of, selected}
use Rattle.imap_session.specs.Session.{selection_of}
use Rattle.imap_session.proofs.SelectedLemmas.{store_refused, store_taken}
use Rattle.imap_session.proofs.selected.store.Goals as goal

pub returns-then-selected-clause-does : goal.returns-then-selected-clause-does
returns-then-selected-clause-does g c = λ oracles are now mode.
    store_refused (context_of oracles now c.args.tag.now c.args.outside.now.desk.store) (selection_of mode c.args.selected.now)
    (record { by_uid = c.args.storing.by_uid; set = c.args.set.now; op = c.args.storing.op; silent = c.args.storing.silent; flags = c.args.storing.named })
    c.args.outside.now c.say.new.outside (fault_of c.say.result) c.if-selected.true c.say.ensures.replies

pub returns-clause-does : goal.returns-clause-does
returns-clause-does g c = λ oracles are now mode.
    let selection = selection_of mode c.args.selected.now in
    store_taken (context_of oracles now c.args.tag.now c.args.outside.now.desk.store) selection
    (record { by_uid = c.args.storing.by_uid; set = c.args.set.now; op = c.args.storing.op; silent = c.args.storing.silent; flags = c.args.storing.named })
    c.args.outside.now c.answer_over.new.outside (fault_of c.answer_over.result) c.args.selected.now.messages.items c.if-selected.false c.requires.known.messages_are
    (c.answer_over.ensures.does oracles are (selected selection))
