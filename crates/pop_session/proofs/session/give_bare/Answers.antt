use Rattle.std.proofs.Common.{◌≡◌, false, None, rules}
use Rattle.session_core.specs.Keeps.{fault_of}
use Rattle.session_core.proofs.AskingLemmas.{AsksAndReplies-replies}
use Rattle.pop_session.proofs.RowLemmas.{IsOfAuthorization, has_reply, no_reply, row_out_of_order}
use Rattle.pop_session.proofs.session.give_bare.Goals as goal

pub returns-in-User-clause-replies : goal.returns-in-User-clause-replies
returns-in-User-clause-replies g c = λ oracles are.
    let word : IsOfAuthorization c.args.keyword = search rules in
    row_out_of_order oracles g.V.View.mode c.args.maildrop.now c.args.outside.now c.give.new.self (fault_of c.give.result) c.args.keyword None word c.give.ensures.replies

pub returns-in-Capa-clause-replies : goal.returns-in-Capa-clause-replies
returns-in-Capa-clause-replies g c = rw c.in-Capa.is
    (λ oracles are. AsksAndReplies-replies c.args.outside.now c.give-in-Capa.new.self (fault_of c.give-in-Capa.result) _ c.give-in-Capa.ensures.replies)

pub returns-in-Noop-clause-replies : goal.returns-in-Noop-clause-replies
returns-in-Noop-clause-replies g c = rw c.in-Noop.is
    (λ oracles are. AsksAndReplies-replies c.args.outside.now c.give-in-Noop.new.self (fault_of c.give-in-Noop.result) _ c.give-in-Noop.ensures.replies)

pub returns-in-Stat-clause-replies : goal.returns-in-Stat-clause-replies
returns-in-Stat-clause-replies g c = c.give_of_maildrop.ensures.replies

pub returns-in_default-clause-replies : goal.returns-in_default-clause-replies
returns-in_default-clause-replies g c = λ oracles are.
    let other : has_reply c.args.keyword None ≡ false = search rules in
    no_reply oracles g.V.View.mode c.args.maildrop.now c.args.outside.now c.give-in_default.new.self (fault_of c.give-in_default.result) c.args.keyword None other c.give-in_default.ensures.replies
