use Rattle.std.proofs.Common.{◌∙◌, [], ℕ, List, Err, None, Ok, Some}
use Rattle.std.proofs.lemmas.Result.{err_from_is_err_and}
use Rattle.session_core.specs.Oracles.{Oracles}
use Rattle.imap_session.specs.Machine.{Context, Step, authenticated, completed, context_of, date_or, lacks_date}
use Rattle.imap_session.specs.private.Appending.{command_of, request_step, put_of}
use Rattle.imap_session.proofs.AppendLemmas.{date_is, request_broken, request_counts, request_state, request_told, none_told}
use Rattle.imap_session.proofs.StepLemmas.{Takes-fault, Takes-next, TakesAt-dated, TakesAt-none}
use Rattle.imap_session.proofs.appending.append.Goals as goal

pub returns-in_err-date-clause-takes : goal.returns-in_err-date-clause-takes
returns-in_err-date-clause-takes g c =
    let account = c.args.imap.state.account in
    let request = c.args.request.now in
    let state = authenticated g.V.View.mode account in
    let context : Oracles → List ℕ → Context = λ oracles now. context_of oracles now c.args.tag.now c.args.outside.now.desk.store in
    let step : Oracles → List ℕ → List ℕ → Step = λ oracles now date. request_step (context oracles now) state g.V.View.mode account request date in
    let failed = err_from_is_err_and c.from_residual.result c.from_residual.ensures.1 in
    rw (failed.1, failed.2, c.date_of.ensures.same) (TakesAt-none c.args.outside.now (lacks_date (command_of request)) (λ oracles now. step oracles now (date_or now request.date.now)))

pub put_request-requires-clause-dated : goal.put_request-requires-clause-dated
put_request-requires-clause-dated g c =
    rw c.as_slice.ensures (date_is c.args.outside.now.clock c.args.request.now.date.now c.in_ok-date.date c.in_ok-date.ensures.from c.requires.dated)

pub returns-in_err-put-clause-takes : goal.returns-in_err-put-clause-takes
returns-in_err-put-clause-takes g c =
    let account = c.args.imap.state.account in
    let request = c.args.request.now in
    let state = authenticated g.V.View.mode account in
    let context : Oracles → List ℕ → Context = λ oracles now. context_of oracles now c.args.tag.now c.args.outside.now.desk.store in
    let step : Oracles → List ℕ → List ℕ → Step = λ oracles now date. request_step (context oracles now) state g.V.View.mode account request date in
    let date = c.in_ok-date.date in
    let met = c.in_err-put.field-0.0 in
    let failed = err_from_is_err_and c.from_residual-in_err-put.result c.from_residual-in_err-put.ensures.1 in
    let makes = rw (c.date_of.ensures.same, c.as_slice.ensures) at c.in_err-put.ensures.makes in
    rw (failed.1, failed.2) (TakesAt-dated c.args.outside.now c.put_request.new.outside (Err met) request.date.now date step c.in_ok-date.ensures.from
    (λ now. Takes-fault c.args.outside.now c.put_request.new.outside met (λ oracles. step oracles now date)
    (λ oracles are. request_broken oracles c.args.outside.now now c.args.tag.now state g.V.View.mode account request date c.put_request.new.outside met (makes oracles are))))

pub returns-in_err-say-clause-takes : goal.returns-in_err-say-clause-takes
returns-in_err-say-clause-takes g c =
    let account = c.args.imap.state.account in
    let request = c.args.request.now in
    let state = authenticated g.V.View.mode account in
    let context : Oracles → List ℕ → Context = λ oracles now. context_of oracles now c.args.tag.now c.args.outside.now.desk.store in
    let step : Oracles → List ℕ → List ℕ → Step = λ oracles now date. request_step (context oracles now) state g.V.View.mode account request date in
    let date = c.in_ok-date.date in
    let met = c.in_err-say.field-0.0 in
    let failed = err_from_is_err_and c.from_residual-in_err-say.result c.from_residual-in_err-say.ensures.1 in
    let advance = rw c.date_of.ensures.same at c.in_ok-put.ensures.put in
    let makes = rw (c.date_of.ensures.same, c.as_slice.ensures) at c.in_ok-put.ensures.makes in
    let replies = rw c.put_words.ensures at c.in_err-say.ensures.replies in
    rw (failed.1, failed.2) (TakesAt-dated c.args.outside.now c.say.new.outside (Err met) request.date.now date step c.in_ok-date.ensures.from
    (λ now. Takes-fault c.args.outside.now c.say.new.outside met (λ oracles. step oracles now date)
    (λ oracles are. request_told oracles c.args.outside.now now c.args.tag.now state g.V.View.mode account request date c.put_request.new.outside c.say.new.outside (Some met) c.in_ok-put.put []
    (advance oracles are) (none_told oracles c.put_request.new.outside.desk.store.kept c.in_ok-put.put) (makes oracles are) replies)))

pub returns-clause-takes : goal.returns-clause-takes
returns-clause-takes g c =
    let account = c.args.imap.state.account in
    let request = c.args.request.now in
    let state = authenticated g.V.View.mode account in
    let context : Oracles → List ℕ → Context = λ oracles now. context_of oracles now c.args.tag.now c.args.outside.now.desk.store in
    let step : Oracles → List ℕ → List ℕ → Step = λ oracles now date. request_step (context oracles now) state g.V.View.mode account request date in
    let date = c.in_ok-date.date in
    let session = c.in_authenticated.result in
    let advance = rw c.date_of.ensures.same at c.in_ok-put.ensures.put in
    let makes = rw (c.date_of.ensures.same, c.as_slice.ensures) at c.in_ok-put.ensures.makes in
    let replies = rw c.put_words.ensures at c.in_ok-say.ensures.replies in
    let counts = request_counts c.args.outside.now c.put_request.new.outside request.flags date (completed request.octets.now)
    (λ oracles. put_of oracles g.V.View.mode account c.args.outside.now.desk.store request) makes in
    TakesAt-dated c.args.outside.now c.say.new.outside (Ok (Some session)) request.date.now date step c.in_ok-date.ensures.from
    (λ now. Takes-next c.args.outside.now c.say.new.outside (Some session) (λ oracles. step oracles now date)
    (λ oracles are. request_told oracles c.args.outside.now now c.args.tag.now state g.V.View.mode account request date c.put_request.new.outside c.say.new.outside None c.in_ok-put.put []
    (advance oracles are) (none_told oracles c.put_request.new.outside.desk.store.kept c.in_ok-put.put) (makes oracles are) replies)
    (λ oracles are. c.in_authenticated.ensures.state ∙ request_state (context oracles now) state g.V.View.mode account request date)
    (c.in_authenticated.ensures.known c.say.new.outside.desk.store (rw (replies.leaves.desk, counts.accounts) c.requires.known)))
