use Rattle.std.proofs.Common.{◌≡◌, ◌∙◌, ap}
use Rattle.pop_session.specs.Machine.{deleted_ids}
use Rattle.pop_session.proofs.MaildropLemmas.{deleted-distinct, deleted-unrefused}
use Rattle.pop_session.proofs.TakenLemmas.{calls_taken}
use Rattle.pop_session.proofs.states.Pop+Update+V.update.Goals as goal

pub expunge-requires-clause-live : goal.expunge-requires-clause-live
expunge-requires-clause-live g c =
    rw (c.deref-2.ensures.value ∙ c.in_ok-ids.ensures ∙ ap deleted_ids c.deref.ensures.value) (deleted-unrefused c.args.outside.now.desk.store c.args.self.state.maildrop.items c.requires.known)

pub expunge-requires-clause-distinct : goal.expunge-requires-clause-distinct
expunge-requires-clause-distinct g c =
    rw (c.deref-2.ensures.value ∙ c.in_ok-ids.ensures ∙ ap deleted_ids c.deref.ensures.value) (deleted-distinct c.args.outside.now.desk.store c.args.self.state.maildrop.items c.requires.known)

pub returns-clause-makes : goal.returns-clause-makes
returns-clause-makes g c =
    let ids_are : c.deref-2.result.now ≡ deleted_ids c.args.self.state.maildrop.items = c.deref-2.ensures.value ∙ c.in_ok-ids.ensures ∙ ap deleted_ids c.deref.ensures.value in
    rw (ids_are, calls_taken (deleted_ids c.args.self.state.maildrop.items)) at c.expunge.ensures.makes

pub returns-clause-nothing : goal.returns-clause-nothing
returns-clause-nothing g c none =
    let ids_are : c.deref-2.result.now ≡ deleted_ids c.args.self.state.maildrop.items = c.deref-2.ensures.value ∙ c.in_ok-ids.ensures ∙ ap deleted_ids c.deref.ensures.value in
    c.expunge.ensures.nothing (ids_are ∙ none)
