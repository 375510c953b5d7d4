use Rattle.std.proofs.Common.{◌≡◌, false, Some, rules}
use Rattle.session_core.specs.Keeps.{fault_of}
use Rattle.pop_session.proofs.RowLemmas.{IsOfAuthorization, has_reply, no_reply, row_out_of_order}
use Rattle.pop_session.proofs.session.give_by_argument.Goals as goal

pub returns-in-User-clause-replies : goal.returns-in-User-clause-replies
returns-in-User-clause-replies g c = λ oracles are.
    let word : IsOfAuthorization c.args.keyword = search rules in
    row_out_of_order oracles g.V.View.mode c.args.maildrop.now c.args.outside.now c.give.new.self (fault_of c.give.result) c.args.keyword (Some c.args.text.now) word c.give.ensures.replies

pub returns-in-List-clause-replies : goal.returns-in-List-clause-replies
returns-in-List-clause-replies g c = c.give_of_message.ensures.replies

pub returns-in-Top-clause-replies : goal.returns-in-Top-clause-replies
returns-in-Top-clause-replies g c = rw c.in-Top.is c.give_top.ensures.replies

pub returns-in_default-clause-replies : goal.returns-in_default-clause-replies
returns-in_default-clause-replies g c = λ oracles are.
    let other : has_reply c.args.keyword (Some c.args.text.now) ≡ false = search rules in
    no_reply oracles g.V.View.mode c.args.maildrop.now c.args.outside.now c.give-in_default.new.self (fault_of c.give-in_default.result) c.args.keyword (Some c.args.text.now) other c.give-in_default.ensures.replies
