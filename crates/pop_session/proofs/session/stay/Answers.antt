use Rattle.std.proofs.Common.{Some, Ok, refl}
use Rattle.std.specs.Option.{option_copied}
use Rattle.std.proofs.lemmas.Result.{err_from_is_err_and}
use Rattle.session_core.proofs.MeaningLemmas.{oracles_given}
use Rattle.pop_session.specs.Machine.{answers, transaction, transaction_asks, transaction_reply}
use Rattle.pop_session.proofs.RowLemmas.{takes_asking, takes_failed_asking}
use Rattle.pop_session.proofs.session.stay.Goals as goal

pub returns-in_err-give_reply-clause-takes : goal.returns-in_err-give_reply-clause-takes
returns-in_err-give_reply-clause-takes g c =
    let failed = err_from_is_err_and c.from_residual.result c.from_residual.ensures.1 in
    let items = c.args.pop.state.maildrop.items in
    rw (failed.1, failed.2)
    (takes_failed_asking c.args.outside.now c.give_reply.new.outside c.in_err-give_reply.field-0.0
    (transaction_asks g.V.View.mode items c.args.outside.now.desk.store c.args.command.keyword (option_copied c.args.command.argument))
    (λ oracles. answers (transaction_reply oracles g.V.View.mode items c.args.outside.now.desk.store c.args.command.keyword (option_copied c.args.command.argument)) (transaction g.V.View.mode items))
    (λ oracles. refl) (λ oracles are. rw c.deref.ensures.value at (c.in_err-give_reply.ensures.replies oracles are)))

pub returns-clause-takes : goal.returns-clause-takes
returns-clause-takes g c =
    let items = c.args.pop.state.maildrop.items in
    takes_asking c.args.outside.now c.give_reply.new.outside (Ok (Some c.in_transaction.result))
    (transaction_asks g.V.View.mode items c.args.outside.now.desk.store c.args.command.keyword (option_copied c.args.command.argument))
    (λ oracles. answers (transaction_reply oracles g.V.View.mode items c.args.outside.now.desk.store c.args.command.keyword (option_copied c.args.command.argument)) (transaction g.V.View.mode items))
    (λ oracles. refl) (λ oracles are. rw c.deref.ensures.value at (c.in_ok-give_reply.ensures.replies oracles are)) (λ oracles are. c.in_transaction.ensures)
    (let replies = c.in_ok-give_reply.ensures.replies oracles_given.0 oracles_given.1 in rw (c.in_transaction.ensures, replies.store) c.requires.known)
