use Rattle.std.proofs.Common.{arith}
use Rattle.session_core.specs.Keeps.{fault_of}
use Rattle.session_core.proofs.AskingLemmas.{AsksAndReplies-replies}
use Rattle.pop_session.specs.Commands.{top_numbers_of}
use Rattle.pop_session.proofs.RowLemmas.{top-missing, top-found, top-unread}
use Rattle.pop_session.proofs.session.give_top.Goals as goal

pub returns-in_default-clause-replies : goal.returns-in_default-clause-replies
returns-in_default-clause-replies g c = rw (top-unread (top_numbers_of c.args.text.now) c.in_default.ensures)
    (λ oracles are. AsksAndReplies-replies c.args.outside.now c.give.new.self (fault_of c.give.result) _ c.give.ensures.replies)

pub returns-in-Some-message_at-clause-replies : goal.returns-in-Some-message_at-clause-replies
returns-in-Some-message_at-clause-replies g c =
    let top = top-found c.args.maildrop.now (top_numbers_of c.args.text.now) c.in-Some.numbers c.in-Some-message_at.one (omega arith) c.in-Some.ensures c.in-Some-message_at.ensures.message in
    rw (top.found_is, top.message) (λ oracles are. c.top.ensures.replies oracles are top.written.lines top.lines)

pub returns-in-None-clause-replies : goal.returns-in-None-clause-replies
returns-in-None-clause-replies g c =
    let top = top-missing c.args.maildrop.now (top_numbers_of c.args.text.now) c.in-Some.numbers (omega arith) c.in-Some.ensures c.in-None.ensures.message in
    rw (top.found_is, top.message)
    (λ oracles are. AsksAndReplies-replies c.args.outside.now c.give-in-None.new.self (fault_of c.give-in-None.result) _ c.give-in-None.ensures.replies)
