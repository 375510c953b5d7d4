use Rattle.std.proofs.Common.{◌≡◌, ◌∙◌, List, ap, arith, length}
use Rattle.std.proofs.lemmas.Result.{err_from_is_err_and}
use Rattle.kept_mail.specs.declared.kept.Listed.{Listed}
use Rattle.session_core.specs.Keeps.{fault_of}
use Rattle.imap_session.specs.Machine.{completed, selected}
use Rattle.imap_session.specs.Session.{KnowsFolder, selection_of}
use Rattle.imap_session.specs.private.Appending.{put_of}
use Rattle.imap_session.proofs.AppendLemmas.{request_broken, request_counts, request_told, request_untold, request_were}
use Rattle.imap_session.proofs.SelectedLemmas.{knows_anew, on_ok}
use Rattle.imap_session.proofs.appending.append_within.Goals as goal

pub returns-in_err-put-clause-does : goal.returns-in_err-put-clause-does
returns-in_err-put-clause-does g c = λ oracles are now.
    let was = c.args.selected.now in
    let state = selected (selection_of g.V.View.mode was) in
    let failed = err_from_is_err_and c.from_residual.result c.from_residual.ensures.1 in
    rw (failed.1, failed.2) (request_broken oracles c.args.outside.now now c.args.tag.now state g.V.View.mode was.account c.args.request.now c.args.date.now c.put_request.new.outside
    c.in_err-put.field-0.0 (c.in_err-put.ensures.makes oracles are))

pub list_put-requires-clause-known : goal.list_put-requires-clause-known
list_put-requires-clause-known g c =
    let was = c.args.selected.now in
    let request = c.args.request.now in
    let counts = request_counts c.args.outside.now c.put_request.new.outside request.flags c.args.date.now (completed request.octets.now)
    (λ oracles. put_of oracles g.V.View.mode was.account c.args.outside.now.desk.store request) c.in_ok-put.ensures.makes in
    rw (c.store.ensures, counts.folders) c.requires.known.folder_is

pub list_put-requires-clause-were : goal.list_put-requires-clause-were
list_put-requires-clause-were g c =
    let was = c.args.selected.now in
    rw c.store.ensures (request_were c.args.outside.now c.put_request.new.outside g.V.View.mode was.account c.args.request.now c.args.date.now was.folder was.messages.items c.in_ok-put.put
    c.requires.known.messages_are c.in_ok-put.ensures.put c.in_ok-put.ensures.makes)

pub returns-in_err-list_put-clause-does : goal.returns-in_err-list_put-clause-does
returns-in_err-list_put-clause-does g c = λ oracles are now.
    let was = c.args.selected.now in
    let state = selected (selection_of g.V.View.mode was) in
    let failed = err_from_is_err_and c.from_residual-in_err-list_put.result c.from_residual-in_err-list_put.ensures.1 in
    rw (failed.1, failed.2) (request_untold oracles c.args.outside.now now c.args.tag.now state g.V.View.mode was.account c.args.request.now c.args.date.now c.put_request.new.outside
    (c.in_ok-put.ensures.makes oracles are))

pub returns-in_err-lines-clause-does : goal.returns-in_err-lines-clause-does
returns-in_err-lines-clause-does g c = λ oracles are now.
    let was = c.args.selected.now in
    let state = selected (selection_of g.V.View.mode was) in
    let failed = err_from_is_err_and c.from_residual-in_err-lines.result c.from_residual-in_err-lines.ensures.1 in
    rw (failed.1, failed.2) (request_untold oracles c.args.outside.now now c.args.tag.now state g.V.View.mode was.account c.args.request.now c.args.date.now c.put_request.new.outside
    (c.in_ok-put.ensures.makes oracles are))

pub returns-clause-does : goal.returns-clause-does
returns-clause-does g c = λ oracles are now.
    let was = c.args.selected.now in
    let state = selected (selection_of g.V.View.mode was) in
    let kept = c.put_request.new.outside.desk.store.kept in
    let size : c.len-count.result ≡ length c.list_put.new.messages.items = omega (arith, c.len-count.ensures) in
    let count = size ∙ ap (λ (messages : List Listed). length messages) (rw c.store.ensures at c.in_ok-list_put.ensures.listing) in
    request_told oracles c.args.outside.now now c.args.tag.now state g.V.View.mode was.account c.args.request.now c.args.date.now c.put_request.new.outside c.answer.new.outside
    (fault_of c.answer.result) c.in_ok-put.put c.in_ok-lines.lines (c.in_ok-put.ensures.put oracles are) (c.in_ok-lines.ensures oracles kept count) (c.in_ok-put.ensures.makes oracles are)
    (rw c.put_words.ensures at c.answer.ensures.replies)

pub returns-clause-known : goal.returns-clause-known
returns-clause-known g c =
    let was = c.args.selected.now in
    let request = c.args.request.now in
    let counts = request_counts c.args.outside.now c.put_request.new.outside request.flags c.args.date.now (completed request.octets.now)
    (λ oracles. put_of oracles g.V.View.mode was.account c.args.outside.now.desk.store request) c.in_ok-put.ensures.makes in
    on_ok c.answer.result (KnowsFolder c.answer.new.outside.desk.store was.account was.folder c.list_put.new.messages.items)
    (knows_anew c.args.outside.now c.put_request.new.outside c.answer.new.outside was.account was.folder was.messages.items c.list_put.new.messages.items counts
    c.answer.ensures.replies.leaves.desk c.requires.known (rw c.store.ensures at c.in_ok-list_put.ensures.listing) c.in_ok-list_put.ensures.few)
