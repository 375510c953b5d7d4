use Rattle.std.proofs.Common.{ℕ, List}
use Rattle.std.proofs.lemmas.Result.{err_from_is_err_and}
use Rattle.session_core.specs.Keeps.{fault_of}
use Rattle.session_core.specs.Oracles.{Oracles}
use Rattle.imap_session.specs.Machine.{Context, Step, context_of, date_or, lacks_date, selected}
use Rattle.imap_session.specs.Session.{selection_of}
use Rattle.imap_session.specs.private.Appending.{command_of, request_step}
use Rattle.imap_session.proofs.AppendLemmas.{date_is, request_state}
use Rattle.imap_session.proofs.SelectedLemmas.{Takes-stays}
use Rattle.imap_session.proofs.StepLemmas.{TakesAt-dated, TakesAt-none}
use Rattle.imap_session.proofs.selected.append_selected.Goals as goal

pub returns-in_err-date-clause-takes : goal.returns-in_err-date-clause-takes
returns-in_err-date-clause-takes g c =
    let was = c.args.imap.state in
    let request = c.args.request.now in
    let state = selected (selection_of g.V.View.mode was) in
    let context : Oracles → List ℕ → Context = λ oracles now. context_of oracles now c.args.tag.now c.args.outside.now.desk.store in
    let step : Oracles → List ℕ → List ℕ → Step = λ oracles now date. request_step (context oracles now) state g.V.View.mode was.account request date in
    let failed = err_from_is_err_and c.from_residual.result c.from_residual.ensures.1 in
    rw (failed.1, failed.2, c.date_of.ensures.same) (TakesAt-none c.args.outside.now (lacks_date (command_of request)) (λ oracles now. step oracles now (date_or now request.date.now)))

pub append_within-done-requires-clause-dated : goal.append_within-done-requires-clause-dated
append_within-done-requires-clause-dated g c =
    rw c.as_slice.ensures (date_is c.args.outside.now.clock c.args.request.now.date.now c.in_ok-date.date c.in_ok-date.ensures.from c.requires.dated)

pub returns-clause-takes : goal.returns-clause-takes
returns-clause-takes g c =
    let was = c.args.imap.state in
    let request = c.args.request.now in
    let mode = g.V.View.mode in
    let date = c.in_ok-date.date in
    let state = selected (selection_of mode was) in
    let context : Oracles → List ℕ → Context = λ oracles now. context_of oracles now c.args.tag.now c.args.outside.now.desk.store in
    let step : Oracles → List ℕ → List ℕ → Step = λ oracles now date. request_step (context oracles now) state mode was.account request date in
    let does = rw (c.date_of.ensures.same, c.as_slice.ensures) at c.append_within-done.ensures.does in
    TakesAt-dated c.args.outside.now c.append_within-done.new.outside c.stay.result request.date.now date step c.in_ok-date.ensures.from
    (λ now. Takes-stays c.args.outside.now c.append_within-done.new.outside (fault_of c.append_within-done.result) c.stay.result mode was c.append_within-done.new.selected (λ oracles. step oracles now date)
    c.append_within-done.ensures.same (λ oracles are. does oracles are now) (λ oracles. request_state (context oracles now) state mode was.account request date)
    c.stay.ensures.met c.stay.ensures.state (c.stay.ensures.known c.append_within-done.new.outside.desk.store c.append_within-done.ensures.known))
