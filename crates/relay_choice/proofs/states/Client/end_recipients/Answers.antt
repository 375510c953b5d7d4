use Rattle.std.proofs.Common.{arith}
use Rattle.relay_choice.specs.Standing.{standing_of}
use Rattle.relay_choice.specs.Said.{reset_line, data_line}
use Rattle.relay_choice.specs.declared.states.Awaited.TheVariants.{Reset, Data}
use Rattle.relay_choice.proofs.TurnLemmas.{answered_data, answered_reset, runs_on_ok}
use Rattle.relay_choice.proofs.CountingLemmas.{mail_object_less, said_fewer}
use Rattle.relay_choice.proofs.states.Client.end_recipients.Goals as goal

pub returns-then-not-is_some_accepted-clause-runs : goal.returns-then-not-is_some_accepted-clause-runs
returns-then-not-is_some_accepted-clause-runs c =
    runs_on_ok (standing_of c.args.self) reset_line Reset _ c.reset.result c.reset.ensures (answered_reset (standing_of c.args.self) c.requires search)

pub returns-clause-runs : goal.returns-clause-runs
returns-clause-runs c =
    let said = c.says.ensures in
    runs_on_ok (standing_of c.args.self) data_line Data _ c.says.result (rw c.in_ok-line.ensures at said) (answered_data (standing_of c.args.self) c.requires search)

pub returns-then-not-is_some_accepted-clause-fewer : goal.returns-then-not-is_some_accepted-clause-fewer
returns-then-not-is_some_accepted-clause-fewer c =
    said_fewer (standing_of c.args.self) reset_line Reset _ c.reset.result c.reset.ensures (mail_object_less (standing_of c.args.self) (λ mail_object. 1) (λ mail_object. 3) c.requires (λ mail_object. omega arith))

pub returns-clause-fewer : goal.returns-clause-fewer
returns-clause-fewer c =
    let said = c.says.ensures in
    said_fewer (standing_of c.args.self) data_line Data _ c.says.result (rw c.in_ok-line.ensures at said)
    (mail_object_less (standing_of c.args.self) (λ mail_object. 2) (λ mail_object. 3) c.requires (λ mail_object. omega arith))
