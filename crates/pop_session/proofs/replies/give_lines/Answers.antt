use Rattle.std.proofs.Common.{codes}
use Rattle.std.proofs.lemmas.Result.{err_from_is_err_and}
use Rattle.mail_wire.proofs.Moving.{GivesOrFails-after, GivesPrefix-more}
use Rattle.session_core.specs.Desks.{stored_octets}
use Rattle.session_core.specs.Keeps.{answer_of, fault_of}
use Rattle.session_core.proofs.DoingLemmas.{LeavesDesk-then}
use Rattle.pop_session.proofs.replies.give_lines.Goals as goal

pub returns-in_err-give-clause-replies : goal.returns-in_err-give-clause-replies
returns-in_err-give-clause-replies g c =
    let failed = err_from_is_err_and c.from_residual.result c.from_residual.ensures.1 in
    let first = c.in_err-give.ensures.replies in
    let given = g.G.Giving.given c.args.lines.now (stored_octets c.args.outside.now.desk.store c.args.id) in
    rw (failed.1, failed.2) (record {
      gives = GivesPrefix-more c.args.outside.now.wire c.give.new.self.wire (codes "+OK\r\n") given first.gives;
      leaves = first.leaves;
      fine = first.fine;
    })

pub returns-clause-replies : goal.returns-clause-replies
returns-clause-replies g c =
    let first = c.in_ok-give.ensures.replies in
    let second = c.give_of.ensures.replies in
    let given = g.G.Giving.given c.args.lines.now (stored_octets c.args.outside.now.desk.store c.args.id) in
    record {
      gives = GivesOrFails-after c.args.outside.now.wire c.give.new.self.wire c.give_of.new.self.wire (answer_of (fault_of c.give_of.result)) (codes "+OK\r\n") given first.gives (rw first.leaves.desk at second.gives);
      leaves = LeavesDesk-then c.args.outside.now c.give.new.self c.give_of.new.self first.leaves second.leaves;
      fine = second.fine;
    }
