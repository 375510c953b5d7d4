use Rattle.std.proofs.Common.{sym}
use Rattle.std.proofs.lemmas.Result.{err_from_is_err_and}
use Rattle.mail_wire.specs.declared.outside.Fault.TheVariants as fault
use Rattle.session_core.specs.Keeps.{fault_of}
use Rattle.session_core.proofs.AskingLemmas.{AsksAndReplies-broken}
use Rattle.session_core.proofs.KeepsLemmas.{Keeps-then}
use Rattle.pop_session.proofs.AskLemmas.{retr_shown, stored_asks}
use Rattle.pop_session.proofs.replies.retr.Goals as goal

pub returns-then-enabled-clause-replies : goal.returns-then-enabled-clause-replies
returns-then-enabled-clause-replies g c = λ oracles are.
    stored_asks oracles g.V.View.mode c.args.outside.now c.give_lines.new.outside (fault_of c.give_lines.result) 0 c.args.one.now (sym c.if-enabled.ensures) c.give_lines.ensures.replies

pub returns-in_err-shown-clause-replies : goal.returns-in_err-shown-clause-replies
returns-in_err-shown-clause-replies g c = λ oracles are.
    let failed = err_from_is_err_and c.from_residual.result c.from_residual.ensures.1 in
    rw (failed.1, failed.2) (AsksAndReplies-broken c.args.outside.now c.show.new.self fault.Memory _ _ _ (λ bad. cc) c.in_err-shown.ensures.asks)

pub returns-in_err-shown-clause-keeps : goal.returns-in_err-shown-clause-keeps
returns-in_err-shown-clause-keeps g c =
    let failed = err_from_is_err_and c.from_residual.result c.from_residual.ensures.1 in
    rw (failed.1, failed.2) c.in_err-shown.ensures.keeps

pub returns-clause-replies : goal.returns-clause-replies
returns-clause-replies g c = λ oracles are.
    retr_shown oracles are g.V.View.mode c.args.outside.now c.show.new.self c.give_lines-2.new.outside (fault_of c.give_lines-2.result) c.args.one.now c.octets.result.now c.in_ok-shown.shown
    c.size-len.result c.in_ok-shown.ensures.asks c.in_ok-shown.ensures.served c.octets.ensures c.size-len.ensures c.give_lines-2.ensures.replies

pub returns-clause-keeps : goal.returns-clause-keeps
returns-clause-keeps g c =
    Keeps-then c.args.outside.now c.show.new.self c.give_lines-2.new.outside (fault_of c.give_lines-2.result) c.in_ok-shown.ensures.keeps c.give_lines-2.ensures.keeps
