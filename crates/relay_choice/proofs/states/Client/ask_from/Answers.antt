use Rattle.std.proofs.Common.{◌+◌, ap, arith, length, rules}
use Rattle.relay_choice.specs.Relay.{sent_after}
use Rattle.relay_choice.specs.Standing.{standing_of}
use Rattle.relay_choice.specs.Said.{rcpt_line}
use Rattle.relay_choice.specs.declared.states.Awaited.TheVariants.{Rcpt}
use Rattle.relay_choice.proofs.TurnLemmas.{asked_all, asked_for, runs_as, runs_on_ok, text_at}
use Rattle.relay_choice.proofs.CountingLemmas.{fewer_than, here_few, here_less, said_fewer}
use Rattle.relay_choice.proofs.states.Client.ask_from.Goals as goal

pub returns-in_default-clause-runs : goal.returns-in_default-clause-runs
returns-in_default-clause-runs c =
    let is = c.index-as_slice-self.is in
    runs_as _ _ c.end_recipients.result
    (asked_all (standing_of c.args.self) c.index-as_slice-self.result c.args.from c.requires (rw c.as_slice.ensures at is) (search rules)) c.end_recipients.ensures.runs

pub rcpt_line-requires : goal.rcpt_line-requires
rcpt_line-requires c =
    let is = c.index-as_slice-self.is in
    let here = c.index-as_slice-place.is in
    text_at c.args.self.mail_objects c.args.self.at c.in-Some.place c.index-as_slice-self.result c.index-as_slice-place.result c.args.self.addressed c.requires
    (rw c.as_slice.ensures at is) c.in-Some.ensures.bound (rw c.as_slice-2.ensures at here)

pub returns-clause-runs : goal.returns-clause-runs
returns-clause-runs c =
    let is = c.index-as_slice-self.is in
    let here = c.index-as_slice-place.is in
    let said = c.says.ensures in
    runs_on_ok (standing_of c.args.self) (rcpt_line c.args.self.offer c.index-as_slice-place.result) (Rcpt (c.in-Some.place + 1)) _ c.says.result (rw c.in_ok-line.ensures at said)
    (asked_for (standing_of c.args.self) c.index-as_slice-self.result c.args.from c.in-Some.place c.index-as_slice-place.result c.requires (rw c.as_slice.ensures at is)
    c.in-Some.ensures.next (rw c.as_slice-2.ensures at here))

pub returns-in_default-clause-fewer : goal.returns-in_default-clause-fewer
returns-in_default-clause-fewer c =
    let is = c.index-as_slice-self.is in
    fewer_than _ _ c.end_recipients.result
    (here_few (standing_of c.args.self) c.index-as_slice-self.result (λ mail_object. 3) (λ mail_object. length (sent_after c.args.self.offer mail_object c.args.from) + 3) c.requires (rw c.as_slice.ensures at is)
    (omega arith)) c.end_recipients.ensures.fewer

pub returns-clause-fewer : goal.returns-clause-fewer
returns-clause-fewer c =
    let is = c.index-as_slice-self.is in
    let said = c.says.ensures in
    let asked = ap length c.in-Some.ensures.next.first in
    said_fewer (standing_of c.args.self) (rcpt_line c.args.self.offer c.index-as_slice-place.result) (Rcpt (c.in-Some.place + 1)) _ c.says.result (rw c.in_ok-line.ensures at said)
    (here_less (standing_of c.args.self) c.index-as_slice-self.result (λ mail_object. length (sent_after c.args.self.offer mail_object (c.in-Some.place + 1)) + 3)
    (λ mail_object. length (sent_after c.args.self.offer mail_object c.args.from) + 3) c.requires (rw c.as_slice.ensures at is) (omega (arith, asked)))
