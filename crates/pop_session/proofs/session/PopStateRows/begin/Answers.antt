use Rattle.std.proofs.lemmas.Result.{err_from_is_err_and}
use Rattle.std.proofs.Common.{Some}
use Rattle.session_core.proofs.DoingLemmas.{Does-replies}
use Rattle.pop_session.specs.Replies.{part_octets}
use Rattle.pop_session.specs.Session.{greeting}
use Rattle.pop_session.proofs.session.PopStateRows.begin.Goals as goal

pub returns-in_err-give-clause-begins : goal.returns-in_err-give-clause-begins
returns-in_err-give-clause-begins g c =
    let failed = err_from_is_err_and c.from_residual.result c.from_residual.ensures.1 in
    rw (failed.1, failed.2)
    (record { does = λ oracles are. Does-replies (part_octets oracles) c.args.outside.now c.give.new.self (Some c.in_err-give.field-0.0) greeting c.in_err-give.ensures.replies; stands_for = tt })
