use Rattle.session_core.specs.Keeps.{fault_of}
use Rattle.imap_session.specs.Machine.{context_of, selected}
use Rattle.imap_session.specs.Session.{selection_of}
use Rattle.imap_session.proofs.SelectedLemmas.{fetch_taken}
use Rattle.imap_session.proofs.selected.fetch.Goals as goal

pub returns-clause-does : goal.returns-clause-does
returns-clause-does g c = λ oracles are now.
    let selection = selection_of g.V.View.mode c.args.selected.now in
    fetch_taken (context_of oracles now c.args.tag.now c.args.outside.now.desk.store) selection (record { by_uid = c.args.by_uid; set = c.args.set.now; items = c.args.items.now })
    c.args.outside.now c.answer_over.new.outside (fault_of c.answer_over.result) c.args.selected.now.messages.items c.requires.known.messages_are
    (c.answer_over.ensures.does oracles are (selected selection))
