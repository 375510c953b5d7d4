use Rattle.std.proofs.Common.{◌∙◌}
use Rattle.imap_session.proofs.SelectedLemmas.{deleted_distinct, deleted_unrefused}
use Rattle.imap_session.proofs.selected.take_deleted_out.Goals as goal

pub expunge-requires-clause-live : goal.expunge-requires-clause-live
expunge-requires-clause-live g c = rw (c.deref.ensures.value ∙ c.in_ok-ids.ensures) (deleted_unrefused c.args.outside.now.desk.store.kept c.args.messages.now c.requires.listing)

pub expunge-requires-clause-distinct : goal.expunge-requires-clause-distinct
expunge-requires-clause-distinct g c = rw (c.deref.ensures.value ∙ c.in_ok-ids.ensures) (deleted_distinct c.args.outside.now.desk.store.kept c.args.messages.now c.requires.listing)
