use Rattle.std.proofs.lemmas.Result.{err_from_is_err_and}
use Rattle.session_core.specs.Keeps.{fault_of}
use Rattle.imap_session.specs.Machine.{answers, done, list_lines}
use Rattle.imap_session.proofs.StepLemmas.{answers_given, nothing_given}
use Rattle.imap_session.proofs.commands.give_list.Goals as goal

pub returns-in_err-lines-clause-does : goal.returns-in_err-lines-clause-does
returns-in_err-lines-clause-does g c = λ oracles state.
    let failed = err_from_is_err_and c.from_residual.result c.from_residual.ensures.1 in
    let lines = list_lines g.V.View.mode c.args.outside.now.desk.store c.args.account c.args.reference.now c.args.pattern.now in
    rw (failed.1, failed.2) (nothing_given oracles c.args.outside.now (answers c.args.tag.now done lines state))

pub returns-clause-does : goal.returns-clause-does
returns-clause-does g c = λ oracles state.
    let lines = list_lines g.V.View.mode c.args.outside.now.desk.store c.args.account c.args.reference.now c.args.pattern.now in
    answers_given oracles c.args.outside.now c.answer.new.outside (fault_of c.answer.result) c.args.tag.now done lines state c.in_ok-lines.lines
    (rw c.store.ensures at (c.in_ok-lines.ensures oracles)) c.answer.ensures.replies
