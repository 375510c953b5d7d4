use Rattle.std.proofs.Common.{arith}
use Rattle.surrogate_rope.specs.Served.{shown_octets}
use Rattle.std.proofs.lemmas.Result.{err_from_is_err_and}
use Rattle.mail_wire.specs.declared.outside.Fault.TheVariants as fault
use Rattle.session_core.specs.Keeps.{fault_of}
use Rattle.session_core.proofs.AskingLemmas.{AsksAndReplies-broken}
use Rattle.session_core.proofs.KeepsLemmas.{Keeps-then}
use Rattle.pop_session.proofs.AskLemmas.{top_shown}
use Rattle.pop_session.proofs.ManyLines.{top_length-many}
use Rattle.pop_session.proofs.replies.top.Goals as goal

pub returns-clause-replies : goal.returns-clause-replies
returns-clause-replies g c = λ oracles are n capped.
    let size = top_length-many n c.args.lines c.top_length-len.result (shown_octets c.octets.result.now c.in_ok-shown.shown) capped c.top_length-len.ensures.length (omega arith) in
    top_shown oracles are g.V.View.mode c.args.outside.now c.show.new.self c.give_lines.new.outside (fault_of c.give_lines.result) c.args.one.now c.octets.result.now c.in_ok-shown.shown
    c.top_length-len.result n c.in_ok-shown.ensures.asks c.in_ok-shown.ensures.served c.octets.ensures size c.give_lines.ensures.replies

pub returns-clause-keeps : goal.returns-clause-keeps
returns-clause-keeps g c =
    Keeps-then c.args.outside.now c.show.new.self c.give_lines.new.outside (fault_of c.give_lines.result) c.in_ok-shown.ensures.keeps c.give_lines.ensures.keeps

pub returns-in_err-shown-clause-replies : goal.returns-in_err-shown-clause-replies
returns-in_err-shown-clause-replies g c = λ oracles are n capped.
    let failed = err_from_is_err_and c.from_residual.result c.from_residual.ensures.1 in
    rw (failed.1, failed.2) (AsksAndReplies-broken c.args.outside.now c.show.new.self fault.Memory _ _ _ (λ bad. cc) c.in_err-shown.ensures.asks)

pub returns-in_err-shown-clause-keeps : goal.returns-in_err-shown-clause-keeps
returns-in_err-shown-clause-keeps g c =
    let failed = err_from_is_err_and c.from_residual.result c.from_residual.ensures.1 in
    rw (failed.1, failed.2) c.in_err-shown.ensures.keeps
