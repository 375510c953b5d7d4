use Rattle.std.proofs.Common.{Some, Ok, false, refl}
use Rattle.std.specs.Prelude.{map}
use Rattle.std.proofs.lemmas.Result.{err_from_is_err_and}
use Rattle.pop_session.specs.Machine.{answers, done, marked, transaction}
use Rattle.pop_session.proofs.MaildropLemmas.{knows-unmarked}
use Rattle.pop_session.proofs.RowLemmas.{takes_failed, takes_reply}
use Rattle.pop_session.proofs.session.rset.Goals as goal

pub returns-in_err-give-clause-takes : goal.returns-in_err-give-clause-takes
returns-in_err-give-clause-takes g c =
    let failed = err_from_is_err_and c.from_residual.result c.from_residual.ensures.1 in
    rw (failed.1, failed.2)
    (takes_failed c.args.outside.now c.give.new.self c.in_err-give.field-0.0 (λ oracles. answers done (transaction g.V.View.mode (map (marked false) c.args.pop.state.maildrop.items)))
    (λ oracles. refl) (λ oracles are. c.in_err-give.ensures.replies))

pub returns-clause-takes : goal.returns-clause-takes
returns-clause-takes g c =
    takes_reply c.args.outside.now c.give.new.self (Ok (Some c.in_transaction.result)) (λ oracles. answers done (transaction g.V.View.mode (map (marked false) c.args.pop.state.maildrop.items)))
    (λ oracles. refl) (λ oracles are. c.in_ok-give.ensures.replies) (λ oracles are. rw (c.in_transaction.ensures, c.rset.ensures) refl)
    (rw (c.in_transaction.ensures, c.rset.ensures, c.in_ok-give.ensures.replies.leaves.desk) (knows-unmarked c.args.outside.now.desk.store c.args.pop.state.maildrop.items c.requires))
