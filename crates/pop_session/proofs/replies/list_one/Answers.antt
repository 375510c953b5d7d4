use Rattle.std.proofs.Common.{None, Some, refl}
use Rattle.std.proofs.lemmas.Result.{err_from_is_err_and}
use Rattle.mail_wire.specs.declared.outside.Fault.TheVariants as fault
use Rattle.pop_session.proofs.AskLemmas.{asks_lost, keeps_lost}
use Rattle.pop_session.proofs.replies.list_one.Goals as goal

pub returns-in_err-size-clause-asks : goal.returns-in_err-size-clause-asks
returns-in_err-size-clause-asks g c =
    let failed = err_from_is_err_and c.from_residual.result c.from_residual.ensures.1 in
    asks_lost c.args.outside.now c.size.new.outside c.from_residual.result (Some fault.Memory) _ _ (rw failed.1 refl) c.in_err-size.ensures.asks

pub returns-in_err-size-clause-keeps : goal.returns-in_err-size-clause-keeps
returns-in_err-size-clause-keeps g c =
    let failed = err_from_is_err_and c.from_residual.result c.from_residual.ensures.1 in
    rw failed.1 c.in_err-size.ensures.keeps

pub returns-in_err-format-clause-asks : goal.returns-in_err-format-clause-asks
returns-in_err-format-clause-asks g c =
    let failed = err_from_is_err_and c.from_residual-in_err-format.result c.from_residual-in_err-format.ensures.1 in
    asks_lost c.args.outside.now c.size.new.outside c.from_residual-in_err-format.result None _ _ (rw failed.1 refl) c.in_ok-size.ensures.asks

pub returns-in_err-format-clause-keeps : goal.returns-in_err-format-clause-keeps
returns-in_err-format-clause-keeps g c =
    let failed = err_from_is_err_and c.from_residual-in_err-format.result c.from_residual-in_err-format.ensures.1 in
    keeps_lost c.args.outside.now c.size.new.outside c.from_residual-in_err-format.result (rw failed.1 refl) c.in_ok-size.ensures.keeps
