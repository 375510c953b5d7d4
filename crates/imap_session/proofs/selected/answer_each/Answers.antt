use Rattle.std.proofs.lemmas.Result.{err_from_is_err_and}
use Rattle.std.specs.List.{flat_map}
use Rattle.session_core.specs.Keeps.{fault_of}
use Rattle.imap_session.specs.Machine.{done, numbered_at}
use Rattle.imap_session.proofs.SelectedLemmas.{are_live, pending_broken, pending_ends}
use Rattle.imap_session.proofs.selected.answer_each.Goals as goal

pub take_each-requires-clause-live : goal.take_each-requires-clause-live
take_each-requires-clause-live g c = are_live c.args.outside.now.desk.store.kept c.args.messages.now.items c.requires.listing

pub returns-in_err-take_each-clause-does : goal.returns-in_err-take_each-clause-does
returns-in_err-take_each-clause-does g c = λ oracles are state.
    let failed = err_from_is_err_and c.from_residual.result c.from_residual.ensures.1 in
    let acts = flat_map (g.E.EachMessage.acts c.args.each.now oracles c.args.outside.now.desk.store) (flat_map (numbered_at c.args.messages.now.items) c.args.places.now) in
    rw (failed.1, failed.2) (pending_broken oracles c.args.outside.now c.take_each.new.outside c.in_err-take_each.field-0.0 c.args.tag.now done acts c.take_each.new.pending
    (rw c.new-pending.ensures at (c.in_err-take_each.ensures.carries oracles are)))

pub returns-clause-does : goal.returns-clause-does
returns-clause-does g c = λ oracles are state.
    let acts = flat_map (g.E.EachMessage.acts c.args.each.now oracles c.args.outside.now.desk.store) (flat_map (numbered_at c.args.messages.now.items) c.args.places.now) in
    pending_ends oracles c.args.outside.now c.take_each.new.outside c.answer.new.outside (fault_of c.answer.result) c.args.tag.now done acts c.take_each.new.pending
    (rw c.new-pending.ensures at (c.in_ok-take_each.ensures.carries oracles are)) c.answer.ensures.replies
