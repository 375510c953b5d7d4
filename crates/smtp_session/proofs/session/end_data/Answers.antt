use Rattle.std.proofs.Common.{◌∙◌}
use Rattle.std.proofs.lemmas.Result.{err_from_is_err_and}
use Rattle.mail_wire.specs.declared.outside.Fault.TheVariants as fault
use Rattle.mail_wire.specs.Dots.{unstuffed}
use Rattle.session_core.specs.Keeps.{fault_of}
use Rattle.session_core.specs.Moments.{moment_of}
use Rattle.session_core.proofs.DoingLemmas.{DoesFirst-none}
use Rattle.session_core.proofs.KeepsLemmas.{Keeps-memory, Keeps-nil}
use Rattle.smtp_session.specs.Machine.{acts_in, end_data}
use Rattle.smtp_session.specs.Session.{line_octets}
use Rattle.smtp_session.specs.private.Steps.{due_of}
use Rattle.smtp_session.proofs.EndLemmas.{Does-refused, Does-same, dropped_is, end_deliverable, end_is, end_trace, said_none}
use Rattle.smtp_session.proofs.session.end_data.Goals as goal

pub returns-in_default-clause-does : goal.returns-in_default-clause-does
returns-in_default-clause-does g c oracles are lines ended =
    let session = c.args.whole.session.state in
    let store = c.args.outside.now.desk.store in
    let limit = c.args.whole.reader.limit in
    Does-refused c.args.outside.now c.reply_to_data.new.outside (fault_of c.reply_to_data.result) session.client (end_data oracles store session.client session.envelope (moment_of c.args.timestamp) (unstuffed lines))
    (dropped_is oracles limit store session.client session.envelope (moment_of c.args.timestamp) lines c.requires.known c.requires.limit
    (said_none limit lines c.into_content.result c.in_default.not-Some (c.into_content.ensures lines ended))) c.reply_to_data.ensures.replies

pub returns-in_err-accepted-clause-does : goal.returns-in_err-accepted-clause-does
returns-in_err-accepted-clause-does g c oracles are lines ended =
    let session = c.args.whole.session.state in
    let taken = end_data oracles c.args.outside.now.desk.store session.client session.envelope (moment_of c.args.timestamp) (unstuffed lines) in
    let failed = err_from_is_err_and c.from_residual.result c.from_residual.ensures.1 in
    rw (failed.1, failed.2) (DoesFirst-none line_octets c.args.outside.now fault.Memory (acts_in taken) (λ bad. cc))

pub returns-in_err-accepted-clause-keeps : goal.returns-in_err-accepted-clause-keeps
returns-in_err-accepted-clause-keeps g c =
    let failed = err_from_is_err_and c.from_residual.result c.from_residual.ensures.1 in
    rw (failed.1, failed.2) (Keeps-memory c.args.outside.now c.args.outside.now (Keeps-nil c.args.outside.now))

pub finish_data-requires-clause-deliverable : goal.finish_data-requires-clause-deliverable
finish_data-requires-clause-deliverable g c is =
    let session = c.args.whole.session.state in
    let store = c.args.outside.now.desk.store in
    let moment = moment_of c.args.timestamp in
    let named = c.as_bytes-name.ensures.value ∙ (rw c.store.ensures at c.name.ensures) in
    let other = end_trace store session.client session.envelope moment c.requires.known c.requires.opens.named c.requires.moment in
    end_deliverable store session.client session.envelope moment c.as_slice.result.now c.in_ok-accepted.accepted.delivery c.requires.known c.requires.moment
    (c.in_ok-accepted.ensures.delivery store named) (c.in_ok-accepted.ensures.marks is (rw named other))

pub returns-clause-does : goal.returns-clause-does
returns-clause-does g c oracles are lines ended =
    let session = c.args.whole.session.state in
    let store = c.args.outside.now.desk.store in
    let moment = moment_of c.args.timestamp in
    let accepted = c.in_ok-accepted.accepted in
    let named = c.as_bytes-name.ensures.value ∙ (rw c.store.ensures at c.name.ensures) in
    let other = end_trace store session.client session.envelope moment c.requires.known c.requires.opens.named c.requires.moment in
    Does-same c.args.outside.now c.finish_data.new.outside (fault_of c.finish_data.result) (due_of store session.client accepted)
    (end_data oracles store session.client session.envelope moment (unstuffed lines))
    (end_is oracles c.args.whole.reader.limit store session.client session.envelope moment lines c.in-Some.content c.as_slice.result.now accepted are.trees are.marks (c.in-Some.ensures lines ended)
    c.as_slice.ensures (c.in_ok-accepted.ensures.delivery store named) c.in_ok-accepted.ensures.judged (λ is. c.in_ok-accepted.ensures.marks is (rw named other)))
    c.finish_data.ensures.does
