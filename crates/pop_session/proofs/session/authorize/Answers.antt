use Rattle.std.proofs.Common.{List, [], ℕ, Some, None, Ok, subst}
use Rattle.std.specs.Option.{option_copied}
use Rattle.std.proofs.lemmas.Result.{err_from_is_err_and}
use Rattle.mail_wire.specs.declared.outside.Fault.TheVariants as fault
use Rattle.session_core.specs.Doing.{Replies}
use Rattle.pop_session.specs.Machine.{authorization_step}
use Rattle.pop_session.specs.laws.PopLaws.{authorization_changes}
use Rattle.pop_session.proofs.RowLemmas.{takes_failed, takes_reply, takes_stop}
use Rattle.pop_session.proofs.session.authorize.Goals as goal

pub returns-in_err-answer-clause-takes : goal.returns-in_err-answer-clause-takes
returns-in_err-answer-clause-takes g c =
    let failed = err_from_is_err_and c.from_residual.result c.from_residual.ensures.1 in
    rw (failed.1, failed.2)
    (takes_stop c.args.outside.now fault.Memory []
    (λ oracles. authorization_step oracles g.V.View.mode c.args.pop.state.user c.args.outside.now.desk.store c.args.command.keyword (option_copied c.args.command.argument)) (λ bad. cc))

pub returns-in_err-give-clause-takes : goal.returns-in_err-give-clause-takes
returns-in_err-give-clause-takes g c =
    let failed = err_from_is_err_and c.from_residual-in_err-give.result c.from_residual-in_err-give.ensures.1 in
    let user = c.args.pop.state.user in
    let store = c.args.outside.now.desk.store in
    let word = c.args.command.keyword in
    let argument = option_copied c.args.command.argument in
    rw (failed.1, failed.2)
    (takes_failed c.args.outside.now c.give.new.self c.in_err-give.field-0.0 (λ oracles. authorization_step oracles g.V.View.mode user store word argument)
    (λ oracles. authorization_changes oracles g.V.View.mode user store word argument)
    (λ oracles are. subst (λ (octets : List ℕ). Replies c.args.outside.now c.give.new.self (Some c.in_err-give.field-0.0) octets) (rw c.store.ensures at (c.in_ok-answer.ensures.reply oracles are)) c.in_err-give.ensures.replies))

pub returns-clause-takes : goal.returns-clause-takes
returns-clause-takes g c =
    let user = c.args.pop.state.user in
    let store = c.args.outside.now.desk.store in
    let word = c.args.command.keyword in
    let argument = option_copied c.args.command.argument in
    takes_reply c.args.outside.now c.give.new.self (Ok c.in_ok-answer.answer.next) (λ oracles. authorization_step oracles g.V.View.mode user store word argument)
    (λ oracles. authorization_changes oracles g.V.View.mode user store word argument)
    (λ oracles are. subst (λ (octets : List ℕ). Replies c.args.outside.now c.give.new.self None octets) (rw c.store.ensures at (c.in_ok-answer.ensures.reply oracles are)) c.in_ok-give.ensures.replies)
    (λ oracles are. rw c.store.ensures at (c.in_ok-answer.ensures.next oracles are))
    (rw c.in_ok-give.ensures.replies.leaves.desk (rw c.store.ensures at c.in_ok-answer.ensures.known))
