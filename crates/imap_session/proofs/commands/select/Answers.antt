use Rattle.std.proofs.Common.{Some, ap, codes}
use Rattle.std.proofs.lemmas.Result.{err_from_is_err_and}
use Rattle.imap_session.specs.Machine.{answers, authenticated, folder_lines, folder_named, opened_words, says, select_by, selected}
use Rattle.imap_session.proofs.CommandLemmas.{listed_known}
use Rattle.imap_session.proofs.StepLemmas.{Takes-fault, Takes-next, Takes-none, Takes-said, Takes-same, Takes-unsaid}
use Rattle.imap_session.proofs.commands.select.Goals as goal

pub returns-in_err-found-clause-takes : goal.returns-in_err-found-clause-takes
returns-in_err-found-clause-takes g c =
    let failed = err_from_is_err_and c.from_residual.result c.from_residual.ensures.1 in
    rw (failed.1, failed.2) (Takes-none c.args.outside.now
    (λ oracles. select_by c.args.tag.now g.V.View.mode c.args.imap.state.account c.args.read_only c.args.outside.now.desk.store (folder_named oracles g.V.View.mode c.args.outside.now.desk.store c.args.imap.state.account c.args.written.now)))

pub returns-in_err-say-clause-takes : goal.returns-in_err-say-clause-takes
returns-in_err-say-clause-takes g c =
    let failed = err_from_is_err_and c.from_residual-in_err-say.result c.from_residual-in_err-say.ensures.1 in
    let found = rw (c.in_default.is, c.store.ensures) at c.in_ok-found.ensures.found in
    let met = c.in_err-say.field-0.0 in
    let state = authenticated g.V.View.mode c.args.imap.state.account in
    rw (failed.1, failed.2) (Takes-same c.args.outside.now c.say.new.outside _ (λ oracles. says c.args.tag.now (codes "NO no such folder") state) _
    (λ oracles are. ap (select_by c.args.tag.now g.V.View.mode c.args.imap.state.account c.args.read_only c.args.outside.now.desk.store) (found oracles are))
    (Takes-unsaid c.args.outside.now c.say.new.outside met c.args.tag.now (codes "NO no such folder") state c.in_err-say.ensures.replies))

pub returns-in_default-clause-takes : goal.returns-in_default-clause-takes
returns-in_default-clause-takes g c =
    let found = rw (c.in_default.is, c.store.ensures) at c.in_ok-found.ensures.found in
    let state = authenticated g.V.View.mode c.args.imap.state.account in
    Takes-same c.args.outside.now c.say.new.outside _ (λ oracles. says c.args.tag.now (codes "NO no such folder") state) _
    (λ oracles are. ap (select_by c.args.tag.now g.V.View.mode c.args.imap.state.account c.args.read_only c.args.outside.now.desk.store) (found oracles are))
    (Takes-said c.args.outside.now c.say.new.outside c.args.tag.now (codes "NO no such folder") state c.in_authenticated.result c.in_ok-say.ensures.replies c.in_authenticated.ensures.state
    (c.in_authenticated.ensures.known c.args.outside.now.desk.store c.requires.known))

pub returns-in_err-messages-clause-takes : goal.returns-in_err-messages-clause-takes
returns-in_err-messages-clause-takes g c =
    let failed = err_from_is_err_and c.from_residual-in_err-messages.result c.from_residual-in_err-messages.ensures.1 in
    rw (failed.1, failed.2) (Takes-none c.args.outside.now
    (λ oracles. select_by c.args.tag.now g.V.View.mode c.args.imap.state.account c.args.read_only c.args.outside.now.desk.store (folder_named oracles g.V.View.mode c.args.outside.now.desk.store c.args.imap.state.account c.args.written.now)))

pub returns-in_err-give_opened-clause-takes : goal.returns-in_err-give_opened-clause-takes
returns-in_err-give_opened-clause-takes g c =
    let failed = err_from_is_err_and c.from_residual-in_err-give_opened.result c.from_residual-in_err-give_opened.ensures.1 in
    let found = rw (c.in-Some.is, c.store.ensures) at c.in_ok-found.ensures.found in
    let met = c.in_err-give_opened.field-0.0 in
    let state = selected (record { mode = g.V.View.mode; account = c.args.imap.state.account; folder = c.in-Some.folder; read_only = c.args.read_only }) in
    let taken = answers c.args.tag.now (opened_words c.args.read_only) (folder_lines c.args.outside.now.desk.store c.in-Some.folder c.args.read_only) state in
    rw (failed.1, failed.2) (Takes-same c.args.outside.now c.give_opened.new.outside _ (λ oracles. taken) _
    (λ oracles are. ap (select_by c.args.tag.now g.V.View.mode c.args.imap.state.account c.args.read_only c.args.outside.now.desk.store) (found oracles are))
    (Takes-fault c.args.outside.now c.give_opened.new.outside met (λ oracles. taken) (λ oracles are. c.in_err-give_opened.ensures.does oracles state)))

pub returns-clause-takes : goal.returns-clause-takes
returns-clause-takes g c =
    let found = rw (c.in-Some.is, c.store.ensures) at c.in_ok-found.ensures.found in
    let account = c.args.imap.state.account in
    let state = selected (record { mode = g.V.View.mode; account = account; folder = c.in-Some.folder; read_only = c.args.read_only }) in
    let taken = answers c.args.tag.now (opened_words c.args.read_only) (folder_lines c.args.outside.now.desk.store c.in-Some.folder c.args.read_only) state in
    let listing = rw c.store-2.ensures at c.in_ok-messages.ensures.listing in
    let folder = rw (c.in-Some.is, c.store.ensures) at c.in_ok-found.ensures.known in
    let known = listed_known c.args.outside.now.desk.store account c.in-Some.folder c.in_ok-messages.messages.items c.requires.known folder listing c.in_ok-messages.ensures.few in
    Takes-same c.args.outside.now c.give_opened.new.outside _ (λ oracles. taken) _ (λ oracles are. ap (select_by c.args.tag.now g.V.View.mode c.args.imap.state.account c.args.read_only c.args.outside.now.desk.store) (found oracles are))
    (Takes-next c.args.outside.now c.give_opened.new.outside (Some c.in_selected.result) (λ oracles. taken) (λ oracles are. c.in_ok-give_opened.ensures.does oracles state)
    (λ oracles are. rw c.select.ensures at c.in_selected.ensures.state)
    (c.in_selected.ensures.known c.give_opened.new.outside.desk.store (rw (c.select.ensures, c.in_ok-give_opened.ensures.same) known)))
