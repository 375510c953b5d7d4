use Rattle.std.proofs.Common.{ap, codes}
use Rattle.std.proofs.lemmas.Result.{err_from_is_err_and}
use Rattle.kept_mail.specs.Kept.{logged_in}
use Rattle.surrogate_cache.specs.Served.{legacy}
use Rattle.imap_session.specs.Machine.{authenticated, done, login_by, not_authenticated, says}
use Rattle.imap_session.specs.declared.states.ImapState.TheVariants as session_in
use Rattle.imap_session.proofs.StepLemmas.{Takes-none, Takes-said, Takes-same, Takes-unsaid}
use Rattle.imap_session.proofs.commands.login.Goals as goal

pub returns-in_err-account-clause-takes : goal.returns-in_err-account-clause-takes
returns-in_err-account-clause-takes g c =
    let failed = err_from_is_err_and c.from_residual.result c.from_residual.ensures.1 in
    rw (failed.1, failed.2)
    (Takes-none c.args.outside.now (λ oracles. login_by c.args.tag.now (logged_in oracles.path_of c.args.outside.now.desk.store.kept c.args.name.now c.args.password.now)))

pub returns-in_err-say-clause-takes : goal.returns-in_err-say-clause-takes
returns-in_err-say-clause-takes g c =
    let failed = err_from_is_err_and c.from_residual-in_err-say.result c.from_residual-in_err-say.ensures.1 in
    let found = rw (c.in_default.is, c.store.ensures) at c.in_ok-account.ensures.found in
    let met = c.in_err-say.field-0.0 in
    rw (failed.1, failed.2) (Takes-same c.args.outside.now c.say.new.outside _ (λ oracles. says c.args.tag.now (codes "NO no") not_authenticated) _
    (λ oracles are. ap (login_by c.args.tag.now) (found oracles.path_of are.paths))
    (Takes-unsaid c.args.outside.now c.say.new.outside met c.args.tag.now (codes "NO no") not_authenticated c.in_err-say.ensures.replies))

pub returns-in_err-say-2-clause-takes : goal.returns-in_err-say-2-clause-takes
returns-in_err-say-2-clause-takes g c =
    let failed = err_from_is_err_and c.from_residual-in_err-say-2.result c.from_residual-in_err-say-2.ensures.1 in
    let found = rw (c.in-Some.is, c.store.ensures) at c.in_ok-account.ensures.found in
    let met = c.in_err-say-2.field-0.0 in
    let state = authenticated legacy c.in-Some.account in
    rw (failed.1, failed.2) (Takes-same c.args.outside.now c.say-2.new.outside _ (λ oracles. says c.args.tag.now done state) _
    (λ oracles are. ap (login_by c.args.tag.now) (found oracles.path_of are.paths))
    (Takes-unsaid c.args.outside.now c.say-2.new.outside met c.args.tag.now done state c.in_err-say-2.ensures.replies))

pub returns-clause-takes : goal.returns-clause-takes
returns-clause-takes g c =
    let found = rw (c.in-Some.is, c.store.ensures) at c.in_ok-account.ensures.found in
    let known = rw (c.in-Some.is, c.store.ensures) at c.in_ok-account.ensures.known in
    let state = authenticated legacy c.in-Some.account in
    Takes-same c.args.outside.now c.say-2.new.outside _ (λ oracles. says c.args.tag.now done state) _ (λ oracles are. ap (login_by c.args.tag.now) (found oracles.path_of are.paths))
    (Takes-said c.args.outside.now c.say-2.new.outside c.args.tag.now done state (session_in.Authenticated c.login-2.result) c.in_ok-say-2.ensures.replies
    (ap (authenticated legacy) c.login-2.ensures) (rw c.login-2.ensures known))
