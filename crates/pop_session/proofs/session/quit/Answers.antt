use Rattle.std.proofs.Common.{Some, None, refl}
use Rattle.std.proofs.lemmas.Result.{err_from_is_err_and}
use Rattle.session_core.proofs.DoingLemmas.{Does-changes, Does-unchanged}
use Rattle.pop_session.specs.Machine.{bye, deleted_ids, taken_out}
use Rattle.pop_session.specs.Replies.{part_octets}
use Rattle.pop_session.proofs.session.quit.Goals as goal

pub returns-in_err-update-clause-takes : goal.returns-in_err-update-clause-takes
returns-in_err-update-clause-takes g c =
    let failed = err_from_is_err_and c.from_residual.result c.from_residual.ensures.1 in
    let makes = rw c.quit.ensures at c.in_err-update.ensures.makes in
    rw (failed.1, failed.2) (record {
      does = λ oracles are. Does-unchanged (part_octets oracles) c.args.outside.now c.update.new.outside c.in_err-update.field-0.0 (taken_out (deleted_ids c.args.pop.state.maildrop.items)) bye makes;
      next = λ oracles are. tt;
      known = tt;
    })

pub returns-in_err-give-clause-takes : goal.returns-in_err-give-clause-takes
returns-in_err-give-clause-takes g c =
    let failed = err_from_is_err_and c.from_residual-in_err-give.result c.from_residual-in_err-give.ensures.1 in
    let makes = rw c.quit.ensures at c.in_ok-update.ensures.makes in
    rw (failed.1, failed.2) (record {
      does = λ oracles are. Does-changes (part_octets oracles) c.args.outside.now c.update.new.outside c.give.new.self (Some c.in_err-give.field-0.0) (taken_out (deleted_ids c.args.pop.state.maildrop.items)) bye
          makes c.in_err-give.ensures.replies;
      next = λ oracles are. tt;
      known = tt;
    })

pub returns-clause-takes : goal.returns-clause-takes
returns-clause-takes g c =
    let makes = rw c.quit.ensures at c.in_ok-update.ensures.makes in
    record {
      does = λ oracles are. Does-changes (part_octets oracles) c.args.outside.now c.update.new.outside c.give.new.self None (taken_out (deleted_ids c.args.pop.state.maildrop.items)) bye makes c.in_ok-give.ensures.replies;
      next = λ oracles are. refl;
      known = tt;
    }
